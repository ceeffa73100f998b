-- Questions 1 and 2 of a record of any layout whose first field is k: what their yes tells of its codes, and that they say yes of the bytes made of such codes.
-- Assumes nothing.
use Prim.Native.Nat.{ℕ, ◌%◌, ◌/◌, ◌^◌, ◌≤◌}
use native.Mathlib.Omega.{arith}
use borrow.Author.Tests.{eqb-true, le-leb, eq-eqb}
use mathlib.Core.Path.{◌≡◌, refl, ◌∙◌}
use mathlib.Core.Bool.{Bool, ◌&&◌}
use mathlib.Core.List.{List, [], ◌∷◌}
use lib.Dec.{eqb}
use lib.ListN.{length, get_or}
use Rattle.rules.specs.Packing.{number_of, unpack, Fit}
use Rattle.rules.specs.Lists.{total, every}
use Rattle.rules.specs.Questions.{first_no}
use Rattle.rules.specs.Record.{last_year_of}
use Rattle.rules.specs.Reading.{has_last_year}
use Rattle.packing.proofs.Pack.{Fits}
use Rattle.laws.proofs.Lists.{both_left}
use Rattle.laws.proofs.Questions.{yes_said}
use Rattle.opening.proofs.Opened.{years_known_lem}
use Rattle.record.proofs.Number.{bytes_for, filling_for, bytes_with, years_first, bytes_hold}

-- the widths after the first, by k
module _ (ws : ℕ → List ℕ) where
  abbrev pub widths_by : ℕ → List ℕ
  widths_by k = 4 ∷ ws k

  abbrev pub codes_by : List ℕ → List ℕ
  codes_by s = unpack (widths_by (last_year_of s)) (number_of s / 2 ^ filling_for (widths_by (last_year_of s)))

  abbrev pub opening_by : List ℕ → List (ℕ × Bool)
  opening_by s =
      (1, has_last_year s)
      ∷ (2, eqb (length s) (bytes_for (widths_by (last_year_of s))) && eqb (number_of s % 2 ^ filling_for (widths_by (last_year_of s))) 0)
      ∷ []

  -- k is at least 1, and is the first code
  pub opened_years : (s : List ℕ) → Fit 8 s → first_no (opening_by s) ≡ 0 → (1 ≤ last_year_of s) × (get_or (codes_by s) 0 0 ≡ last_year_of s)
  unfolding every
  opened_years s h e =
      let k = last_year_of s in
      let first = years_known_lem s (yes_said 1 (opening_by s) refl e) in
      let second = both_left (eqb (length s) (bytes_for (widths_by k))) _ (yes_said 2 (opening_by s) refl e) in
      (first.1, years_first (ws k) s h (eqb-true (length s) (bytes_for (widths_by k)) second))

  -- the bytes s made of the codes xs of a record of the years 0 to k
  pub record MadeOf (k : ℕ) (xs s : List ℕ) : Type 0 where
    pub small : Fit 8 s
    pub years : last_year_of s ≡ k
    pub opened : first_no (opening_by s) ≡ 0
    pub codes : codes_by s ≡ xs

  pub made : (k : ℕ) (xs : List ℕ) → 1 ≤ k → Fits (widths_by k) xs → get_or xs 0 0 ≡ k → MadeOf k xs (bytes_with (widths_by k) xs)
  unfolding first_no has_last_year total
  made k xs some fits first =
      let h = bytes_hold (ws k) fits in
      let s = bytes_with (widths_by k) xs in
      let years : last_year_of s ≡ k = h.years ∙ first in
      record {
        small = h.small;
        years = years;
        opened = rw (years, le-leb 1 (length s) (omega (arith, h.size)), le-leb 1 k some, eq-eqb (length s) (bytes_for (widths_by k)) h.size, h.filled);
        codes = rw years h.codes;
      }
