-- How long the opening is at most. Assumes nothing.
use mathlib.Core.Bool.{Bool, true, false, cond}
use mathlib.Core.List.{[]}
use Prim.Native.Nat.{ℕ, ◌+◌, ◌≤◌}
use native.Mathlib.Omega.{arith}
use lib.Dec.{eqb}
use lib.ListN.{length, length-append}
use Rattle.composing.proofs.Decimals.{length_most}
use Rattle.parts.specs.Parts.{either, only}
use Rattle.page_opening.specs.Opening.{units_text, years_text, valuation_text, other_year, notice, size_text, opening_text}

units_most : (k : ℕ) → length (units_text k) ≤ 160
unfolding units_text
units_most k = simp length-append (omega (arith, length_most k))

years_most : (html : Bool) (first k : ℕ) → length (years_text html first k) ≤ 220
unfolding years_text either
years_most true first k = simp length-append (omega (arith, length_most first, length_most (first + k), units_most k))
years_most false first k = simp length-append (omega (arith, length_most first, length_most (first + k)))

valuation_most : (html known : Bool) (year first k : ℕ) → length (valuation_text html known year first k) ≤ 310
unfolding valuation_text either only
valuation_most true true year first k = simp length-append (omega (arith, length_most year, years_most true first k))
valuation_most true false year first k = simp length-append (omega (arith, length_most year))
valuation_most false true year first k = simp length-append (omega (arith, length_most year, years_most false first k))
valuation_most false false year first k = simp length-append (omega (arith, length_most year))

other_most : (html : Bool) (latest : ℕ) → length (other_year html latest) ≤ 100
unfolding other_year either
other_most true latest = simp length-append (omega (arith, length_most latest))
other_most false latest = simp length-append (omega (arith, length_most latest))

-- there is a notice, or none
notice_most : (html : Bool) (year first k : ℕ) → length (notice html year first k) ≤ 100
unfolding notice
notice_most html year first k = go (eqb first 0) (eqb (first + k) year)
  where
    go : (none same : Bool) → length (cond none [] (cond same [] (other_year html (first + k)))) ≤ 100
    go true same = omega arith
    go false true = omega arith
    go false false = other_most html (first + k)

size_most : (html : Bool) (bytes : ℕ) → length (size_text html bytes) ≤ 70
unfolding size_text either
size_most true bytes = simp length-append (omega (arith, length_most bytes))
size_most false bytes = simp length-append (omega (arith, length_most bytes))

pub opening_most : (html known : Bool) (year first k bytes : ℕ) → length (opening_text html known year first k bytes) ≤ 480
unfolding opening_text
opening_most html true year first k bytes =
    simp length-append (omega (arith, valuation_most html true year first k, notice_most html year first k, size_most html bytes))
opening_most html false year first k bytes =
    simp length-append (omega (arith, valuation_most html false year first k, size_most html bytes))
