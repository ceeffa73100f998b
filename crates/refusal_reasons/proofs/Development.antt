-- The reason of the first development year of which question 13 says no. Assumes nothing.
use mathlib.Core.Path.{◌≡◌, sym, ap₂}
use mathlib.Core.Bool.{false}
use Prim.Native.Nat.{ℕ, ◌≤◌, ◌<◌}
use borrow.Author.Tests.{lt-ltb, le-ltb}
use Rattle.rules.specs.Ladder.{factor_passes, factors_pass}
use Rattle.reasons.specs.Reasons.{first_refused}
use Rattle.reasons.proofs.Counted.{leading_same}
use Rattle.reasons.proofs.Why.{refused_below}
use Rattle.reason_words.specs.ReasonWords.{base_reason, factor_reason}
use Rattle.refusal_reasons.specs.RefusalReasons.{development_reason}

module _ (a b : ℕ → ℕ) (k : ℕ) where
  -- the reason where its B is below 1, and where it is not
  pub base_reason_lem : (h : ℕ) → h ≡ first_refused a b k → b h < 1 → base_reason h ≡ development_reason a b k
  unfolding development_reason
  base_reason_lem h e l = rw (sym e, lt-ltb (b h) 1 l)

  pub factor_reason_lem : (h : ℕ) → h ≡ first_refused a b k → 1 ≤ b h → factor_reason h ≡ development_reason a b k
  unfolding development_reason
  factor_reason_lem h e l = rw (sym e, le-ltb (b h) 1 l)

-- of the same sums the same reason
pub development_same : (a c b d : ℕ → ℕ) (k : ℕ) → ((h : ℕ) → h < k → a h ≡ c h) → ((h : ℕ) → h < k → b h ≡ d h) → factors_pass k c d ≡ false
    → development_reason a b k ≡ development_reason c d k
unfolding development_reason first_refused
development_same a c b d k e g f =
    rw (leading_same (λ h. factor_passes (a h) (b h)) (λ h. factor_passes (c h) (d h)) k (λ h l. ap₂ factor_passes (e h l) (g h l)), g (first_refused c d k) (refused_below c d k f))
