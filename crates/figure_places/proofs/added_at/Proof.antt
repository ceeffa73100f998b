-- Each section starts where the one before it ends. Assumes nothing.
use Prim.Native.Nat.{ℕ}
use mathlib.Core.Path.{ap₂}
use Rattle.figure_places.specs.Places.{added_from, added_at}
use borrow.Author.Rules.{rules}
use Rattle.figure_places.proofs.added_at.Statement.{statement}
use Rattle.figure_places.proofs.added_at.Tie as tie

returns : tie.Need-returns
unfolding added_at added_from
returns c = ap₂ (λ (r m : ℕ). added_from r m c.before.before.args.k) c.entries_of-exposures.ensures.0 c.before.cells_of-m.ensures.0

pub added_at_spec : {M : Type 1} → statement M
added_at_spec =
    tie.close
    (tie.spec
    (λ c. search rules)
    (λ c κs. search rules)
    (λ c κs. search rules)
    (λ c. search rules)
    (λ c. search rules)
    (λ c. search rules)
    (λ c. search rules)
    (λ c. search rules)
    (λ c. search rules)
    (λ c. search rules)
    (λ c. search rules)
    (λ c. search rules)
    (λ c. search rules)
    (λ c. search rules)
    (λ c. search rules)
    (λ c. search rules)
    (λ c. search rules)
    (λ c. search rules)
    (λ c. search rules)
    (λ c. search rules)
    (λ c. search rules)
    (λ c. search rules)
    returns)
