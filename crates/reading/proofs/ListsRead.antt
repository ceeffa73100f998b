-- The lists of a record that has passed questions 1 and 2, as they are read. Assumes nothing.
use Prim.Native.Nat.{ℕ, ◌+◌, ◌*◌, ◌/◌, ◌%◌, ◌^◌}
use native.Mathlib.Omega.{arith}
use mathlib.Core.Path.{◌≡◌, refl, ap, ap₂, ◌∙◌}
use mathlib.Core.Bool.{Bool, false, cond}
use mathlib.Core.List.{List, [], ◌∷◌, map}
use lib.IntN.{ℤ, pos, nat_abs}
use lib.ListN.{get_or}
use Rattle.rules.specs.Record.{Kind, layout, section, cells, increment, value_of, last_year_of, codes_of, fields_of, exposures_in, increments_in, indices_in, reporting_in, weight_in, ulae_in, tail_in, exposure, index, reporting, weight, ulae, tail, signed_of}
use Rattle.packing.specs.Field.{field_at, row_at}
use Rattle.rules.specs.Lists.{up_to}
use Rattle.layout.specs.Places.{start_of}
use Rattle.layout.proofs.RecordSizes.{starts}
use Rattle.laws.proofs.Lists.{sizes_again}
use Rattle.opening.proofs.Opened.{WholeRecord}
use Rattle.reading.proofs.RowsRead.{codes_row, fields_row}

-- the values of a kind without a sign bit are its bits
value : (κ : Kind) → κ.signed ≡ false → (x : ℕ) → value_of κ x ≡ pos x
unfolding value_of
value κ e x = ap (λ (b : Bool). cond b (signed_of (x / 2 ^ κ.width) (x % 2 ^ κ.width)) (pos x)) e

pub values : (κ : Kind) → κ.signed ≡ false → (xs : List ℕ) → map (value_of κ) xs ≡ map pos xs
values κ e [] = refl
values κ e (x ∷ xs) = ap₂ {C = List ℤ} ◌∷◌ (value κ e x) (values κ e xs)

unsigned : (κ : Kind) → κ.signed ≡ false → (xs : List ℕ) → map nat_abs (map (value_of κ) xs) ≡ xs
unsigned κ e xs = ap (map nat_abs) (values κ e xs) ∙ sizes_again xs

-- a row of one field
pub one_row : (s : List ℕ) (at w : ℕ) → row_at s at w 1 ≡ field_at s at w ∷ []
unfolding row_at up_to
one_row s at w = let e : at + w * 0 ≡ at = omega arith in rw e

-- the codes by their places, row by row
pub record Codes (s : List ℕ) (k : ℕ) : Type 0 where
  pub years : section (layout k) 0 (codes_of s) ≡ row_at s 0 4 1
  pub exposures : section (layout k) 1 (codes_of s) ≡ row_at s 4 20 (k + 1)
  pub increments : section (layout k) 2 (codes_of s) ≡ row_at s (start_of k 2) 35 (cells k)
  pub indices : section (layout k) 3 (codes_of s) ≡ row_at s (start_of k 3) 23 (k + 1)
  pub reporting : section (layout k) 4 (codes_of s) ≡ row_at s (start_of k 4) 20 (k + 1)
  pub weight : section (layout k) 5 (codes_of s) ≡ row_at s (start_of k 5) 20 1
  pub ulae : section (layout k) 6 (codes_of s) ≡ row_at s (start_of k 6) 34 (k + 1)
  pub tail : section (layout k) 7 (codes_of s) ≡ row_at s (start_of k 7) 34 1

-- the lists by their places
pub record Lists (s : List ℕ) (k : ℕ) : Type 0 where
  pub exposures : exposures_in k (fields_of s) ≡ row_at s 4 20 (k + 1)
  pub increments : increments_in k (fields_of s) ≡ map (value_of increment) (row_at s (start_of k 2) 35 (cells k))
  pub indices : indices_in k (fields_of s) ≡ row_at s (start_of k 3) 23 (k + 1)
  pub reporting : reporting_in k (fields_of s) ≡ row_at s (start_of k 4) 20 (k + 1)
  pub weight : weight_in k (fields_of s) ≡ field_at s (start_of k 5) 20
  pub ulae : ulae_in k (fields_of s) ≡ row_at s (start_of k 6) 34 (k + 1)
  pub tail : tail_in k (fields_of s) ≡ field_at s (start_of k 7) 34

-- a row that starts at the same place
same_place : (s : List ℕ) {a b : ℕ} (w n : ℕ) → a ≡ b → row_at s a w n ≡ row_at s b w n
same_place s w n e = rw e

-- the value of a row of one field
one_value : (κ : Kind) → κ.signed ≡ false → (s : List ℕ) {a b : ℕ} (w : ℕ) → a ≡ b → get_or (map nat_abs (map (value_of κ) (row_at s a w 1))) 0 0 ≡ field_at s b w
one_value κ e s {a} {b} w q = rw (unsigned κ e (row_at s a w 1), q, one_row s b w)

module _ (s : List ℕ) (h : WholeRecord s) where
  pub codes : Codes s (last_year_of s)
  unfolding layout
  codes =
      let k = last_year_of s in
      let at = starts k in
      record {
        years = codes_row s h 0;
        exposures = codes_row s h 1;
        increments = codes_row s h 2 ∙ same_place s 35 (cells k) (omega arith);
        indices = codes_row s h 3 ∙ same_place s 23 (k + 1) (omega arith);
        reporting = codes_row s h 4 ∙ same_place s 20 (k + 1) (omega arith);
        weight = codes_row s h 5 ∙ same_place s 20 1 (omega arith);
        ulae = codes_row s h 6 ∙ same_place s 34 (k + 1) (omega arith);
        tail = codes_row s h 7 ∙ same_place s 34 1 (omega arith);
      }

  pub lists : Lists s (last_year_of s)
  unfolding layout exposures_in increments_in indices_in reporting_in weight_in ulae_in tail_in
  lists =
      let k = last_year_of s in
      let at = starts k in
      record {
        exposures = rw (fields_row s h 1) (unsigned exposure refl (row_at s 4 20 (k + 1)));
        increments = rw (fields_row s h 2) (ap (map (value_of increment)) (same_place s 35 (cells k) (omega arith)));
        indices = rw (fields_row s h 3) (unsigned index refl (row_at s _ 23 (k + 1)) ∙ same_place s 23 (k + 1) (omega arith));
        reporting = rw (fields_row s h 4) (unsigned reporting refl (row_at s _ 20 (k + 1)) ∙ same_place s 20 (k + 1) (omega arith));
        weight = rw (fields_row s h 5) (one_value weight refl s 20 (omega arith));
        ulae = rw (fields_row s h 6) (unsigned ulae refl (row_at s _ 34 (k + 1)) ∙ same_place s 34 (k + 1) (omega arith));
        tail = rw (fields_row s h 7) (one_value tail refl s 34 (omega arith));
      }
