-- Numbers of two lists that are the same, and what is so of a line that is shown: its rates make the indices of the record. Assumes nothing.
use mathlib.Core.Path.{◌≡◌, refl, sym, ap, ap₂, ◌∙◌}
use mathlib.Core.Bool.{Bool, true, false, ◌&&◌, cond}
use mathlib.Core.Logic.{◌⊎◌, inl, inr}
use mathlib.Core.List.{List, []}
use Prim.Native.Nat.{ℕ, zero, suc, ◌+◌}
use native.Mathlib.Omega.{arith}
use borrow.Author.Tests.{ne_eqb, eqb-true}
use lib.Dec.{eqb}
use lib.ListN.{get_or}
use Rattle.std.specs.List.{list_all, range_with_len}
use Rattle.rules.specs.Lists.{up_to, padded, every}
use Rattle.rules.specs.Questions.{after_call}
use Rattle.rules.specs.Record.{last_year_of, figures_of}
use Rattle.rules.specs.Inflation.{most_years, index_after, inflation_answer, indices_of}
use Rattle.rules.specs.declared.Inflation.{Inflation}
use Rattle.laws.proofs.Lists.{both_left, both_right, every_up_to, every_same, get_d_up_to, up_to_cons}
use Rattle.laws.proofs.Padded.{filled_at}
use Rattle.inflation_line.specs.InflationLine.{is_inflation, shape_of, fault_in}
use Rattle.rates_shown.specs.RatesShown.{same_first, makes_indices, shown_rates, Made}

-- whether two numbers at the same place are the same
module _ (xs ys : List ℕ) where
  abbrev pub same : ℕ → Bool
  same i = eqb (get_or xs i 0) (get_or ys i 0)

-- a test of n numbers from i on is what `all` of their range asks
all_range : (p : ℕ → Bool) (f : ℕ → ℕ) (i n : ℕ) → ((j : ℕ) → f j ≡ i + j) → list_all p (range_with_len i n) ≡ every p (up_to f n)
unfolding every up_to
all_range p f i zero h = refl
all_range p f i (suc n) h =
    ap₂ (λ (x : ℕ) (b : Bool). p x && b) (omega (arith, h 0)) (all_range p (λ j. f (suc j)) (i + 1) n (λ j. omega (arith, h (suc j))))
    ∙ sym (ap (every p) (up_to_cons f n))

-- whether the first n numbers are the same
pub same_is : (n : ℕ) (xs ys : List ℕ) → list_all (same xs ys) (range_with_len 0 n) ≡ same_first n xs ys
unfolding same_first
same_is n xs ys = all_range (same xs ys) (λ i. i) 0 n (λ j. omega arith)

-- the indices of an accepted call stand in its array
pub made_indices : (shape : Inflation) (years : ℕ) → inflation_answer shape years ≡ 0 → (indices_of shape years).values ≡ padded most_years 0 (up_to (index_after shape) years)
unfolding indices_of after_call
made_indices shape years h = rw h

-- and its first numbers are theirs
pub same_padded : (xs : List ℕ) (f : ℕ → ℕ) (n : ℕ) → same_first n xs (padded most_years 0 (up_to f n)) ≡ same_first n xs (up_to f n)
unfolding same_first
same_padded xs f n =
    every_same (same xs (padded most_years 0 (up_to f n))) (same xs (up_to f n)) (λ i. i) (λ i. i) n
    (λ i l. ap (eqb (get_or xs i 0)) (filled_at most_years 0 f n i 0 l ∙ sym (get_d_up_to f n i 0 l)))

-- without a line none is shown
pub none_shown : (s : List ℕ) → shown_rates s [] ≡ []
unfolding shown_rates
none_shown s = go (makes_indices s [])
  where
    go : (b : Bool) → cond {A = List ℕ} b [] [] ≡ []
    go true = refl
    go false = refl

module _ (s line : List ℕ) where
  abbrev years : ℕ
  years = last_year_of s + 1

  -- by what the line is
  pub other_line : is_inflation line ≡ false → false ≡ makes_indices s line
  unfolding makes_indices
  other_line h = rw h

  module _ (labelled : is_inflation line ≡ true) where
    pub wrong_line : ((fault_in years line).kind ≡ 0 → ⊥) → false ≡ makes_indices s line
    unfolding makes_indices
    wrong_line h = rw (labelled, ne_eqb (fault_in years line).kind 0 h)

    pub right_line : (fault_in years line).kind ≡ 0 → same_first years (figures_of s).indices (up_to (index_after (shape_of line)) years) ≡ makes_indices s line
    unfolding makes_indices
    right_line h = rw (labelled, h)

  -- what a line that makes the indices has passed
  pub made : makes_indices s line ≡ true → Made s line
  unfolding makes_indices same_first
  made h =
      let a = is_inflation line in
      let b = eqb (fault_in years line).kind 0 in
      let d = same_first years (figures_of s).indices (up_to (index_after (shape_of line)) years) in
      let rest = both_right a (b && d) h in
      record {
        labelled = both_left a (b && d) h;
        faultless = eqb-true (fault_in years line).kind 0 (both_left b d rest);
        indices = λ n l. eqb-true (get_or (figures_of s).indices n 0) (index_after (shape_of line) n) (rw (get_d_up_to (index_after (shape_of line)) years n 0 (omega arith)) at (every_up_to (same (figures_of s).indices (up_to (index_after (shape_of line)) years)) (λ (i : ℕ). i) years n (both_right b d rest) (omega arith)));
      }

  -- a report shows a line only where its rates make the indices of the record, and no line otherwise
  pub shown_made : (shown_rates s line ≡ []) ⊎ ((shown_rates s line ≡ line) × Made s line)
  unfolding shown_rates
  shown_made = go (makes_indices s line) refl
    where
      go : (b : Bool) → makes_indices s line ≡ b → (cond b line [] ≡ []) ⊎ ((cond b line [] ≡ line) × Made s line)
      go true e = inr (refl, made e)
      go false e = inl refl
