-- The lines follow one another (put_four). Assumes nothing.
use Rattle.composing.proofs.Puts.{put_four}
use borrow.Author.Rules.{rules}
use Rattle.hindsight_marks.proofs.put_mark_lines.Statement.{statement}
use Rattle.hindsight_marks.proofs.put_mark_lines.Tie as tie

returns : tie.Need-returns
returns c = put_four c.before.before.before.before.before.before.before.before.before.before.before.before.before.before.put_mark_line-a.ensures c.before.before.before.before.before.before.before.before.before.before.put_mark_line-b.ensures c.before.before.before.before.before.before.put_mark_line-c.ensures c.before.before.put_mark_line.ensures

pub put_mark_lines_spec : {M : Type 1} → statement M
put_mark_lines_spec =
    tie.close
    (tie.spec
    (λ c κs. search rules)
    (λ c κs. search rules)
    (λ c κs. search rules)
    (λ c κs. search rules)
    (λ c. search rules)
    returns)
