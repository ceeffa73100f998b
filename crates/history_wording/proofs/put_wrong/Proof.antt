-- The refusal in front, and then the problem. Assumes nothing.
use mathlib.Core.Path.{sym}
use lib.Seq.{length-take-le}
use Rattle.composing.proofs.Puts.{put_append}
use borrow.Author.Rules.{rules}
use Rattle.history_wording.proofs.put_wrong.Statement.{statement}
use Rattle.history_wording.proofs.put_wrong.Tie as tie

slice-aggregate-put-problem : tie.Need-slice_bounds-put_problem-end
slice-aggregate-put-problem c =
    sym (length-take-le _ _ c.before.before.before.before.before.before.before.before.before.requires.1.1)

returns : tie.Need-returns
returns c =
    rw (← c.before.before.before.before.before.before.before.before.before.last_year-n.ensures, ← c.before.before.before.before.before.before.before.before.due_in-d.ensures) (put_append c.before.before.before.before.before.before.put_refused-at.ensures c.before.before.put_problem.ensures)

pub put_wrong_spec : {M : Type 1} → statement M
put_wrong_spec =
    tie.close
    (tie.spec
    (λ c κs. search rules)
    (λ c κs. search rules)
    (λ c κs. search rules)
    slice-aggregate-put-problem
    (λ c κs. search rules)
    (λ c. search rules)
    returns)
