-- Totals below zero and not, and the reason by the first of them. Assumes nothing.
use mathlib.Core.Path.{◌≡◌, sym, ap}
use Prim.Native.Nat.{ℕ, ◌+◌, ◌≤◌, ◌<◌}
use borrow.Author.Tests.{lt-ltb, le-ltb}
use lib.IntN.{ℤ, pos}
use lib.Signed.{le_z}
use Rattle.entries.specs.Leading.{leading}
use Rattle.composing.specs.Text.{ascii}
use Rattle.reasons.specs.Reasons.{first_below}
use Rattle.reasons.proofs.Counted.{leading_same}
use Rattle.reason_words.specs.ReasonWords.{year_reason}
use Rattle.refusal_reasons.specs.RefusalReasons.{totals_reason}

-- the reason where a column is below zero, where a diagonal is, and where none is
module _ (v d : ℕ → ℤ) (k : ℕ) where
  pub column_reason : (j : ℕ) → j ≡ first_below v k → j < k + 1 → year_reason (ascii "development year ") j ≡ totals_reason v d k
  unfolding totals_reason
  column_reason j e l = rw (sym e, lt-ltb j (k + 1) l)

  pub diagonal_reason : (j h : ℕ) → j ≡ first_below v k → k + 1 ≤ j → h ≡ first_below d k → h < k + 1 → year_reason (ascii "payment year ") h ≡ totals_reason v d k
  unfolding totals_reason
  diagonal_reason j h e m f l = rw (sym e, sym f, le-ltb j (k + 1) m, lt-ltb h (k + 1) l)

  pub sum_reason : (j h : ℕ) → j ≡ first_below v k → k + 1 ≤ j → h ≡ first_below d k → k + 1 ≤ h
      → ascii "the averages add up to more than 1,000,000,000 hundredths" ≡ totals_reason v d k
  unfolding totals_reason
  sum_reason j h e m f l = rw (sym e, sym f, le-ltb j (k + 1) m, le-ltb h (k + 1) l)

-- of the same totals the same reason
below_same : (v w : ℕ → ℤ) (n : ℕ) → ((i : ℕ) → i < n → v i ≡ w i) → leading (λ i. le_z (pos 0) (v i)) n ≡ leading (λ i. le_z (pos 0) (w i)) n
below_same v w n h = leading_same (λ i. le_z (pos 0) (v i)) (λ i. le_z (pos 0) (w i)) n (λ i l. ap (le_z (pos 0)) (h i l))

pub reason_same : (v w d e : ℕ → ℤ) (k : ℕ) → ((i : ℕ) → i < k + 1 → v i ≡ w i) → ((i : ℕ) → i < k + 1 → d i ≡ e i) → totals_reason v d k ≡ totals_reason w e k
unfolding totals_reason first_below
reason_same v w d e k f g = rw (below_same v w (k + 1) f, below_same d e (k + 1) g)
