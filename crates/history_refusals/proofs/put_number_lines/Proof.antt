-- The lines follow one another (put_four). Assumes nothing.
use Rattle.composing.proofs.Puts.{put_four}
use borrow.Author.Rules.{rules}
use Rattle.history_refusals.proofs.put_number_lines.Statement.{statement}
use Rattle.history_refusals.proofs.put_number_lines.Tie as tie

returns : tie.Need-returns
returns c = put_four c.before.before.before.before.before.before.before.before.before.before.before.before.before.before.put_number_line-a.ensures c.before.before.before.before.before.before.before.before.before.before.put_number_line-b.ensures c.before.before.before.before.before.before.put_number_line-c.ensures c.before.before.put_number_line.ensures

pub put_number_lines_spec : {M : Type 1} → statement M
put_number_lines_spec =
    tie.close
    (tie.spec
    (λ c κs. search rules)
    (λ c κs. search rules)
    (λ c κs. search rules)
    (λ c κs. search rules)
    (λ c. search rules)
    returns)
