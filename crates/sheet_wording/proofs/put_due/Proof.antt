-- Five texts, one after another. Assumes nothing.
use mathlib.Core.Path.{ap}
use mathlib.Core.List.{List, ◌++◌}
use Prim.Native.Nat.{ℕ}
use Rattle.composing.proofs.Puts.{put_five, put_same}
use Rattle.sheet_wording.proofs.Words.{named_append}
use borrow.Author.Rules.{rules}
use Rattle.sheet_wording.proofs.put_due.Statement.{statement}
use Rattle.sheet_wording.proofs.put_due.Tie as tie

returns : tie.Need-returns
returns c =
    put_same (ap (λ (l : List ℕ). c.before.before.before.before.before.before.before.before.before.before.before.before.before.before.before.before.before.before.before.before.before.before.before.before.before.before.before.args.before.now ++ l) (named_append _ _))
    (put_five c.before.before.before.before.before.before.before.before.before.before.before.before.before.before.before.before.before.before.before.before.before.before.put_bytes-quote.ensures c.before.before.before.before.before.before.before.before.before.before.before.before.before.before.before.before.put_bytes-label.ensures c.before.before.before.before.before.before.before.before.before.before.before.before.put_label-close.ensures c.before.before.before.before.before.before.put_bytes-end.ensures c.before.before.put_bytes.ensures)

pub put_due_spec : {M : Type 1} → statement M
put_due_spec =
    tie.close
    (tie.spec
    (λ c κs. search rules)
    (λ c κs. search rules)
    (λ c κs. search rules)
    (λ c κs. search rules)
    (λ c κs. search rules)
    (λ c. search rules)
    returns)
