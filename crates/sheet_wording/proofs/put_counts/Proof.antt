-- The label, and the two counts. Assumes nothing.
use Rattle.composing.proofs.Puts.{put_three, put_same}
use Rattle.sheet_wording.proofs.Words.{counts_are}
use borrow.Author.Rules.{rules}
use Rattle.sheet_wording.proofs.put_counts.Statement.{statement}
use Rattle.sheet_wording.proofs.put_counts.Tie as tie

returns : tie.Need-returns
returns c =
    put_same (counts_are c.before.before.before.before.before.before.before.before.before.before.before.before.before.before.before.before.before.before.before.before.before.before.before.before.before.args.d c.before.before.before.before.before.before.before.before.before.before.before.before.before.before.before.before.before.before.before.before.before.before.before.before.before.args.cell) (put_three c.before.before.before.before.before.before.before.before.before.before.before.before.before.before.before.before.before.before.put_due-takes.ensures c.before.before.before.before.before.before.before.before.before.before.put_count-stand.ensures c.before.before.put_count.ensures)

pub put_counts_spec : {M : Type 1} → statement M
put_counts_spec =
    tie.close
    (tie.spec
    (λ c κs. search rules)
    (λ c κs. search rules)
    (λ c κs. search rules)
    (λ c. search rules)
    returns)
