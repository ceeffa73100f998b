-- Which numbers are an index, and what the answer of the routine says of a year's. Assumes nothing.
use Rattle.std.proofs.Common.{◌≡◌, ℕ, zero, suc, ◌<◌, ◌≤◌, Bool, true, false, leb, ◌⊎◌, refl, ◌∙◌, inl, inr, arith, le-leb, leb-true}
use borrow.Author.Tests.{lt-leb}
use Rattle.rules.specs.Lists.{between}
use Rattle.rules.specs.Record.{most_index}
use Rattle.laws.proofs.Lists.{both_left}
use Rattle.inflation_index.specs.Index.{if_an_index}

pub an_index : (w : ℕ) → w ≤ most_index → if_an_index w ≡ w
unfolding if_an_index
an_index zero h = refl
an_index (suc w) h = rw (le-leb 1 (suc w) (omega arith), le-leb (suc w) most_index h)

pub no_index : (w : ℕ) → (w ≡ 0) ⊎ (most_index < w) → if_an_index w ≡ 0
unfolding if_an_index
no_index w (inl e) = rw e
no_index w (inr h) = rw (le-leb 1 w (omega arith), lt-leb w most_index h)

-- r is what the routine answers of a float whose nearest whole number is w
module _ (w r : ℕ) (e : r ≡ if_an_index w) where
  pub leaves : r ≡ 0 → between 1 most_index w ≡ false
  unfolding if_an_index
  leaves z = go (between 1 most_index w) refl
    where
      go : (b : Bool) → between 1 most_index w ≡ b → between 1 most_index w ≡ false
      go false g = g
      go true g =
          let s : if_an_index w ≡ w = rw g in
          absurd (omega (arith, leb-true 1 w (both_left (leb 1 w) (leb w most_index) g)))

  pub lies_in : (r ≡ 0 → ⊥) → (between 1 most_index w ≡ true) × (r ≡ w)
  unfolding if_an_index
  lies_in z = go (between 1 most_index w) refl
    where
      go : (b : Bool) → between 1 most_index w ≡ b → (between 1 most_index w ≡ true) × (r ≡ w)
      go true g = (g, e ∙ (rw g))
      go false g =
          let s : if_an_index w ≡ 0 = rw g in
          absurd (z (e ∙ s))
