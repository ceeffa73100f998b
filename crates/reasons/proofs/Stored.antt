-- The first development year of which question 13 says no, by the factors that the ladder stores before it in an array of factors above the most.
-- Assumes nothing.
use mathlib.Core.Path.{◌≡◌, ◌∙◌}
use mathlib.Core.Bool.{true, false}
use mathlib.Core.List.{List}
use Prim.Native.Nat.{ℕ, ◌+◌, ◌<◌}
use native.Mathlib.Omega.{arith}
use borrow.Author.Tests.{lt-leb}
use lib.Dec.{leb}
use lib.ListN.{get_or, replicate}
use lib.Seq.{sets}
use Rattle.rules.specs.Lists.{up_to}
use Rattle.rules.specs.Ladder.{development_factor, most_factor, factor_passes, factors_pass}
use Rattle.laws.proofs.Lists.{both_right, length_up_to, every_up_to, every_yes}
use Rattle.laws.proofs.Padded.{filled_at, rest_at}
use Rattle.laws.proofs.Joined.{sets_filled}
use Rattle.entries.specs.Leading.{leading}
use Rattle.entries.proofs.Leading.{leading_stop}
use Rattle.reasons.specs.Reasons.{first_refused}
use Rattle.reasons.proofs.Counted.{counted}
use Rattle.reasons.proofs.Why.{refused_below}

module _ (a b : ℕ → ℕ) (k : ℕ) where
  abbrev factor : ℕ → ℕ
  factor h = development_factor (a h) (b h)

  -- a year that passes has a factor that is not above the most
  fits : (h : ℕ) → factor_passes (a h) (b h) ≡ true → leb (factor h) most_factor ≡ true
  unfolding factor_passes
  fits h e = both_right (leb 1 (b h)) (leb (factor h) most_factor) e

  pub first_stored : k < 16 → factors_pass k a b ≡ false → (m : List ℕ)
      → m ≡ sets (replicate 16 (most_factor + 1)) 0 (up_to (λ h. development_factor (a h) (b h)) (leading (λ h. factor_passes (a h) (b h)) k))
      → leading (λ h. leb (get_or m h 0) most_factor) k ≡ first_refused a b k
  unfolding first_refused
  first_stored few f m e =
      let n = leading (λ h. factor_passes (a h) (b h)) k in
      let less : n < k = refused_below a b k f in
      let stored = e ∙ sets_filled 16 (most_factor + 1) (up_to factor n) (omega (arith, length_up_to factor n)) in
      let passed = (counted (λ h. factor_passes (a h) (b h)) k).before in
      rw stored
      (leading_stop _ k n less
      (every_yes _ (λ h. h) n (λ h l. rw (filled_at 16 (most_factor + 1) factor n h 0 l) (fits h (every_up_to (λ h. factor_passes (a h) (b h)) (λ h. h) n h passed l))))
      (rw (rest_at 16 (most_factor + 1) factor n n 0 (omega arith) (omega arith)) (lt-leb (most_factor + 1) most_factor (omega arith))))
