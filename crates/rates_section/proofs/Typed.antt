-- A rate is shown whole, as it was typed: none is longer than what is shown. Assumes nothing.
use mathlib.Core.Path.{◌≡◌, refl, ◌∙◌}
use mathlib.Core.Bool.{Bool, true, false, ◌&&◌, ◌||◌, cond}
use mathlib.Core.List.{List}
use Prim.Native.Nat.{ℕ, suc, ◌+◌, ◌≤◌, ◌<◌}
use native.Mathlib.Omega.{arith}
use borrow.Author.Tests.{eqb-true, leb-true, ltb-false}
use lib.Dec.{eqb, leb, ltb}
use lib.ListN.{length, drop, length-take, length-drop}
use lib.Seq.{take_all}
use Rattle.rules.specs.Lists.{below, every}
use Rattle.laws.proofs.Lists.{both_left, every_up_to}
use Rattle.entries.specs.Leading.{leading}
use Rattle.inflation.proofs.Years.{leading_few}
use Rattle.composing.specs.Text.{ascii}
use Rattle.scanning.specs.Parts.{among, before, until, past}
use Rattle.scanning.specs.Numbers.{is_natural}
use Rattle.decimals.specs.Decimals.{is_negative, unsigned, whole_digits, fraction_digits, most_digits, is_decimal}
use Rattle.rate_text.specs.RateText.{is_hex_digit, is_bits, is_rate}
use Rattle.cells.specs.Cells.{cells_of}
use Rattle.titles.specs.Titles.{text_in}
use Rattle.inflation_line.specs.declared.Fault.{Fault}
use Rattle.inflation_line.specs.InflationLine.{shape_at, numbers_due, number_at, is_due, passing_numbers, fault, fault_in}
use Rattle.inflation_line.proofs.Lines.{due_rate}
use Rattle.rates_section.specs.RatesSection.{most_typed, typed_rate}

-- the bits of a float are sixteen digits
bits_short : (w : List ℕ) → is_bits w ≡ true → length w ≤ most_typed
unfolding is_bits
bits_short w h = omega (arith, eqb-true (length w) 16 (both_left (eqb (length w) 16) (every is_hex_digit w) h))

-- a decimal has at most fifteen, a point and a minus sign
sign_short : (w : List ℕ) → length w ≤ length (unsigned w) + 1
unfolding unsigned
sign_short w = go (is_negative w)
  where
    go : (b : Bool) → length w ≤ length (cond b (drop 1 w) w) + 1
    go true = omega (arith, length-drop 1 w)
    go false = omega arith

point_short : (w : List ℕ) → length (unsigned w) ≤ length (whole_digits w) + length (fraction_digits w) + 1
unfolding whole_digits fraction_digits until past
point_short w =
    let xs = unsigned w in
    let n = before (among (ascii ".")) xs in
    omega (arith, length-take n xs, length-drop (suc n) xs)

decimal_short : (w : List ℕ) → is_decimal w ≡ true → length w ≤ most_typed
unfolding is_decimal
decimal_short w h =
    let n = length (whole_digits w) + length (fraction_digits w) in
    let few = leb-true n most_digits (both_left (leb n most_digits) (is_natural (unsigned w) || (is_natural (whole_digits w) && is_natural (fraction_digits w))) h) in
    omega (arith, sign_short w, point_short w)

rate_short : (w : List ℕ) → is_rate w ≡ true → length w ≤ most_typed
unfolding is_rate
rate_short w h = go (is_bits w) refl
  where
    go : (b : Bool) → is_bits w ≡ b → length w ≤ most_typed
    go true e = bits_short w e
    go false e = decimal_short w (rw e at h)

-- every number of a line with which nothing is wrong is of its form
module _ (years : ℕ) (line : List ℕ) (faultless : (fault_in years line).kind ≡ 0) where
  abbrev count : ℕ
  count = numbers_due (shape_at line)

  abbrev due : ℕ → Bool
  due i = is_due (suc i) (number_at line (suc i))

  all_due : every due (below count) ≡ true
  unfolding fault_in passing_numbers
  all_due =
      go (eqb (shape_at line) 3) (eqb (length (cells_of line)) (suc count)) (ltb (leading due count) count) refl (every due (below count)) refl _ _ _ faultless
    where
      go : (a b c : Bool) → ltb (leading due count) count ≡ c → (d : Bool) → every due (below count) ≡ d → (x : Fault) (y z : ℕ)
          → (cond a (fault 1 0) (cond b (cond c (fault 3 y) x) (fault 2 z))).kind ≡ 0 → every due (below count) ≡ true
      go true b c e d f x y z k = absurd (omega arith)
      go false false c e d f x y z k = absurd (omega arith)
      go false true true e d f x y z k = absurd (omega arith)
      go false true false e true f x y z k = f
      go false true false e false f x y z k = absurd (omega (arith, leading_few due count f, ltb-false (leading due count) count e))

  -- so its rates, the first two numbers, stand on the page as they were typed
  pub rate_whole : (html : Bool) (n : ℕ) → n < count → n < 2 → typed_rate html line (suc n) ≡ text_in html (number_at line (suc n))
  unfolding typed_rate
  rate_whole html n h few = rw (take_all most_typed (number_at line (suc n)) (rate_short (number_at line (suc n)) rate))
    where
      rate : is_rate (number_at line (suc n)) ≡ true
      rate = due_rate (suc n) (number_at line (suc n)) (λ e. absurd (omega arith)) ∙ every_up_to due (λ (i : ℕ). i) count n all_due h
