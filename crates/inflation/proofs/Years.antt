-- One year of the path, and of the walk over the years wanted. Assumes nothing.
use mathlib.Core.Path.{◌≡◌, refl, sym, ◌∙◌}
use mathlib.Core.Bool.{Bool, true, false, cond, ◌&&◌, true≢false}
use mathlib.Core.List.{[], ◌∷◌}
use Prim.Native.Nat.{ℕ, zero, suc, ◌+◌, ◌<◌}
use native.Mathlib.Omega.{arith}
use borrow.Author.Tests.{eq-eqb, ne_eqb}
use native.Mathlib.Numerals.{add-one}
use lib.Ieee.{Float, binary64, add, mul}
use Rattle.rules.specs.Lists.{up_to, below, every}
use Rattle.rules.specs.Inflation.{one, index_scale, rate_after, path_after, state_after, scaled_after, nearest_whole, index_after}
use Rattle.rules.specs.declared.Inflation.{Inflation}
use Rattle.rules.specs.declared.Path.{Path}
use Rattle.laws.proofs.Lists.{every_append}
use Rattle.entries.specs.Leading.{leading}
use Rattle.entries.proofs.Leading.{leading_all}
use Rattle.inflation_index.specs.Index.{if_an_index}

module _ (shape : Inflation) (n : ℕ) where
  -- the path after the year, and the next year's rate
  pub state_next : (p : Path) (rate : Float) → p ≡ state_after shape n → rate ≡ rate_after shape (n + 1)
      → record { rate = rate; value = mul binary64 p.value (add binary64 one p.rate) } ≡ state_after shape (n + 1)
  unfolding state_after path_after
  state_next p rate e h = rw (e, h, add-one n)

  -- the index of the year, from the path after it
  pub year_index : (p : Path) (r : ℕ) → p ≡ state_after shape (n + 1)
      → r ≡ if_an_index (nearest_whole (mul binary64 p.value index_scale)) → r ≡ if_an_index (index_after shape n)
  unfolding state_after index_after scaled_after
  year_index p r h e = rw (h, add-one n) at e

module _ (p : ℕ → Bool) where
  -- a test of one year more
  pub below_more : (n : ℕ) → every p (below n) ≡ true → p n ≡ true → every p (below (n + 1)) ≡ true
  unfolding up_to every
  below_more n h e = rw (add-one n, every_append p (up_to (λ i. i) n) (n ∷ []), h, e)

  one_fails : {n : ℕ} → (b : Bool) → b && true ≡ false → cond b (suc n) n < suc n
  one_fails true h = absurd (true≢false h)
  one_fails false h = omega arith

  -- where one fails, not all are counted
  pub leading_few : (n : ℕ) → every p (below n) ≡ false → leading p n < n
  unfolding up_to every leading
  leading_few zero h = absurd (true≢false h)
  leading_few (suc n) h = go (every p (below n)) refl (leading_few n)
    where
      go : (b : Bool) → every p (below n) ≡ b → (every p (below n) ≡ false → leading p n < n) → leading p (suc n) < suc n
      go true e f =
          let last : p n && true ≡ false = sym (every_append p (below n) (n ∷ []) ∙ rw e) ∙ h in
          rw (leading_all p n e, eq-eqb n n refl) (one_fails (p n) last)
      go false e f = rw (ne_eqb (leading p n) n (λ q. omega (arith, f e))) (omega (arith, f e))
