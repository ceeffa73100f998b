-- Seven texts, one after another. Assumes nothing.
use mathlib.Core.Path.{ap}
use Prim.Native.Nat.{ℕ}
use Rattle.composing.proofs.Puts.{put_three, put_five, put_same}
use Rattle.sheet_wording.specs.Problem.{named}
use Rattle.inflation_wording.specs.FaultWords.{shape_name, number_start}
use borrow.Author.Rules.{rules}
use Rattle.inflation_wording.proofs.put_number_start.Statement.{statement}
use Rattle.inflation_wording.proofs.put_number_start.Tie as tie

returns : tie.Need-returns
unfolding number_start
returns c =
    put_three c.before.before.before.before.before.before.before.before.before.before.before.before.before.before.before.before.before.before.before.before.before.before.before.before.before.before.before.before.before.before.before.before.before.put_bytes-number.ensures c.before.before.before.before.before.before.before.before.before.before.before.before.before.before.before.before.before.before.before.before.before.before.before.before.before.before.before.before.before.put_decimal-of.ensures
    (put_five c.before.before.before.before.before.before.before.before.before.before.before.before.before.before.before.before.before.before.before.before.before.before.before.put_bytes-name.ensures (put_same (ap (λ (s : ℕ). named (shape_name s)) c.before.before.before.before.before.before.before.before.before.before.before.before.before.before.before.before.before.before.before.shape_at.ensures.0) c.before.before.before.before.before.before.before.before.before.before.before.before.before.before.before.before.before.before.put_shape-is.ensures) c.before.before.before.before.before.before.before.before.before.before.before.before.put_bytes-cell.ensures c.before.before.before.before.before.before.before.before.put_shown-and.ensures c.before.before.put_bytes.ensures)

pub put_number_start_spec : {M : Type 1} → statement M
put_number_start_spec =
    tie.close
    (tie.spec
    (λ c κs. search rules)
    (λ c κs. search rules)
    (λ c κs. search rules)
    (λ c κs. search rules)
    (λ c κs. search rules)
    (λ c κs. search rules)
    (λ c κs. search rules)
    (λ c κs. search rules)
    (λ c. search rules)
    returns)
