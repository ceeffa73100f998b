-- The words by the shape, the section by whether there is a line, and worked sections. Assumes nothing.
use mathlib.Core.Path.{◌≡◌, refl}
use mathlib.Core.Bool.{Bool}
use mathlib.Core.List.{List, [], ◌∷◌, ◌++◌}
use Prim.Native.Nat.{ℕ, zero, suc}
use native.Mathlib.Omega.{arith}
use lib.ListN.{length}
use Rattle.composing.specs.Text.{ascii}
use Rattle.parts.specs.Parts.{section_head, section_end}
use Rattle.rates_section.specs.RatesSection.{flat_words, fading_words, shock_words, shape_words, rates_paragraph, rates_section}

module _ (html : Bool) (first k : ℕ) (line : List ℕ) where
  pub first_shape : (place : ℕ) → place ≡ 0 → flat_words html line ≡ shape_words html first k line place
  unfolding shape_words
  first_shape place e = rw e

  pub second_shape : (place : ℕ) → place ≡ 1 → fading_words html line ≡ shape_words html first k line place
  unfolding shape_words
  second_shape place e = rw e

  pub third_shape : (place : ℕ) → (place ≡ 0 → ⊥) → (place ≡ 1 → ⊥) → shock_words html first k line ≡ shape_words html first k line place
  unfolding shape_words
  third_shape zero h g = absurd (h refl)
  third_shape (suc zero) h g = absurd (g refl)
  third_shape (suc (suc place)) h g = refl

-- without a line, and with one
pub no_line : (html : Bool) (first k : ℕ) (line : List ℕ) → length line ≡ 0 → [] ≡ rates_section html first k line
unfolding rates_section
no_line html first k [] h = refl
no_line html first k (b ∷ bs) h = absurd (omega arith)

pub some_line : (html : Bool) (first k : ℕ) (line : List ℕ) → (length line ≡ 0 → ⊥)
    → section_head html (ascii "Inflation") ++ (rates_paragraph html first k line ++ section_end html) ≡ rates_section html first k line
unfolding rates_section
some_line html first k [] h = absurd (h refl)
some_line html first k (b ∷ bs) h = refl
