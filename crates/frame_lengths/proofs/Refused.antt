-- How long the section of a refused record is at most: the texts of a question, the place and the table of its figures. Assumes nothing.
use mathlib.Core.Path.{refl}
use mathlib.Core.Bool.{Bool, true, false, cond}
use mathlib.Core.List.{[]}
use Prim.Native.Nat.{ℕ, ◌≤◌}
use native.Mathlib.Omega.{arith}
use lib.Dec.{eqb}
use lib.ListN.{length, length-append}
use Rattle.rules.specs.Lists.{every}
use Rattle.composing.proofs.Decimals.{length_most}
use Rattle.parts.specs.Parts.{either}
use Rattle.parts.proofs.Lengths.{section_end_most}
use Rattle.finding.specs.declared.Finding.{Finding}
use Rattle.finding.specs.Places.{nowhere}
use Rattle.advice.specs.Advice.{other_asked, other_said, other_advice, asked_texts, asked_text, said_texts, said_text, advice_texts, advice_text}
use Rattle.refused_section.specs.RefusedSection.{place_words, at_place, refused_heading, refused_section}
use Rattle.frame_lengths.proofs.Texts.{each_most}
use Rattle.frame_lengths.proofs.Finding.{place_most, table_of_most}

said_most : (n : ℕ) → length (said_text n) ≤ 220
unfolding said_text said_texts every
said_most n = each_most 220 other_said said_texts (omega arith) refl n

asked_most : (n : ℕ) → length (asked_text n) ≤ 160
unfolding asked_text asked_texts every
asked_most n = each_most 160 other_asked asked_texts (omega arith) refl n

advice_most : (n : ℕ) → length (advice_text n) ≤ 440
unfolding advice_text advice_texts every
advice_most n = each_most 440 other_advice advice_texts (omega arith) refl n

-- the place
words_most : (html : Bool) (first : ℕ) (f : Finding) → length (place_words html first f) ≤ 140
unfolding place_words either
words_most true first f = simp length-append (omega (arith, place_most first f.place f.row f.column))
words_most false first f = simp length-append (omega (arith, place_most first f.place f.row f.column))

at_most : (html : Bool) (first : ℕ) (f : Finding) → length (at_place html first f) ≤ 140
unfolding at_place
at_most html first f = go (eqb f.place nowhere)
  where
    go : (none : Bool) → length (cond none [] (place_words html first f)) ≤ 140
    go true = omega arith
    go false = words_most html first f

heading_most : (html : Bool) (first n : ℕ) (f : Finding) → length (refused_heading html first n f) ≤ 350
unfolding refused_heading either
heading_most true first n f = simp length-append (omega (arith, length_most n, at_most true first f))
heading_most false first n f = simp length-append (omega (arith, length_most n, at_most false first f))

pub refused_most : (html : Bool) (first n : ℕ) (f : Finding) → length (refused_section html first n f) ≤ 4680
unfolding refused_section either
refused_most true first n f =
    simp length-append (omega (arith, heading_most true first n f, asked_most n, said_most n, table_of_most true n f, advice_most n, section_end_most true))
refused_most false first n f =
    simp length-append (omega (arith, heading_most false first n f, asked_most n, said_most n, table_of_most false n f, advice_most n, section_end_most false))
