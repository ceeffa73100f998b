-- How long the section of the rates that made the indices is at most, whatever the line is. Assumes nothing.
use mathlib.Core.Bool.{Bool}
use mathlib.Core.List.{List, [], ◌∷◌}
use Prim.Native.Nat.{ℕ, zero, suc, ◌≤◌}
use native.Mathlib.Omega.{arith}
use lib.ListN.{length, take, length-append, length-take}
use Rattle.composing.specs.Text.{ascii}
use Rattle.composing.proofs.Decimals.{length_most}
use Rattle.parts.proofs.Lengths.{section_start_most, section_end_most}
use Rattle.titles.proofs.Titles.{text_most}
use Rattle.inflation_line.specs.InflationLine.{shape_at, number_at}
use Rattle.rates_section.specs.RatesSection.{most_typed, typed_rate, flat_words, rate_words, fading_words, shock_year, shock_words, shape_words, nearest_words, rates_paragraph, rates_section}
use Rattle.section_lengths.proofs.Proved.{words_most, start_most, end_most}

typed_most : (html : Bool) (line : List ℕ) (n : ℕ) → length (typed_rate html line n) ≤ 85
unfolding typed_rate
typed_most html line n = omega (arith, text_most html (take most_typed (number_at line n)), length-take most_typed (number_at line n))

rate_most : (html : Bool) (line : List ℕ) → length (rate_words html line) ≤ 330
unfolding rate_words
rate_most html line = simp length-append (omega (arith, words_most html (ascii "The indices are made from a rate of inflation of "), typed_most html line 1))

module _ (html : Bool) (first k : ℕ) (line : List ℕ) where
  shape_most : (place : ℕ) → length (shape_words html first k line place) ≤ 710
  unfolding shape_words flat_words fading_words shock_words
  shape_most zero =
      simp length-append (omega (arith, words_most html (ascii "The indices are made from one flat rate of inflation, "), typed_most html line 1))
  shape_most (suc zero) =
      simp length-append
      (omega (arith, rate_most html line, words_most html (ascii " that moves halfway each year toward a long-run rate of "), typed_most html line 2))
  shape_most (suc (suc place)) =
      simp length-append
      (omega
      (arith, rate_most html line, words_most html (ascii " in future year "), length_most (shock_year first k line), words_most html (ascii " and of "), typed_most html line 2, words_most html (ascii " in the others")))

  paragraph_most : length (rates_paragraph html first k line) ≤ 1150
  unfolding rates_paragraph
  paragraph_most = simp length-append (omega (arith, start_most html, shape_most (shape_at line), words_most html nearest_words, end_most html))

pub rates_section_most : (html : Bool) (first k : ℕ) (line : List ℕ) → length (rates_section html first k line) ≤ 1200
unfolding rates_section
rates_section_most html first k [] = omega arith
rates_section_most html first k (b ∷ bs) =
    simp length-append (omega (arith, section_start_most html (ascii "Inflation"), paragraph_most html first k (b ∷ bs), section_end_most html))
