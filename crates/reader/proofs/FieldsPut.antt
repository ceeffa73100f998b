-- The fields of a record that has passed questions 1 and 2, in their order from the arrays that hold them. Assumes nothing.
use Prim.Native.Nat.{ℕ, ◌+◌}
use native.Mathlib.Nat.{zero-add}
use native.Mathlib.Omega.{arith}
use mathlib.Core.Path.{◌≡◌, refl, sym, ap, ap₂, ◌∙◌}
use mathlib.Core.Bool.{false}
use mathlib.Core.List.{List, [], ◌∷◌, ◌++◌, map, append-nil, append_assoc}
use lib.IntN.{ℤ, pos}
use lib.ListN.{length, take, length-append, length-map}
use lib.Seq.{sets}
use Rattle.rules.specs.Lists.{padded}
use Rattle.rules.specs.Record.{Kind, Figures, layout, cells, last_year, increment, weight, tail, value_of, last_year_of, fields_of, figures_of}
use Rattle.laws.proofs.Lists.{take_padded}
use Rattle.laws.proofs.Joined.{sets_append}
use Rattle.packing.specs.Field.{field_at, row_at}
use Rattle.packing.proofs.Pack.{length_row}
use Rattle.layout.specs.Places.{start_of}
use Rattle.layout.proofs.RecordSizes.{starts}
use Rattle.reader.specs.Fields.{triangle_fields, assumption_fields}
use Rattle.opening.proofs.Opened.{WholeRecord}
use Rattle.reading.proofs.RowsRead.{fields_are, years_field}
use Rattle.reading.proofs.ListsRead.{lists, values, one_row}

-- the fields of a set of figures in the record's order
abbrev pub list_of : Figures → List ℤ
list_of f = triangle_fields f.k f.exposures f.increments ++ assumption_fields f.k f.indices f.reporting f.weight f.ulae f.tail

-- a list read is found again
row_list : (s : List ℕ) (w l m n : ℕ) {a b : ℕ} → a ≡ b
    → map pos (take n (padded 16 0 (row_at s a w n))) ≡ map (value_of (record { signed = false; width = w; least = l; most = m })) (row_at s b w n)
row_list s w l m n {a} {b} e =
    rw (e, take_padded 16 n 0 (row_at s b w n) (length_row s b w n)) (sym (values (record { signed = false; width = w; least = l; most = m }) refl (row_at s b w n)))

-- and so is a field that is a row of its own
field_list : (s : List ℕ) (κ : Kind) → κ.signed ≡ false → (w : ℕ) {a b : ℕ} → a ≡ b → pos (field_at s a w) ∷ [] ≡ map (value_of κ) (row_at s b w 1)
field_list s κ u w {a} {b} e = rw (e, values κ u (row_at s b w 1), one_row s b w)

module _ (s : List ℕ) (h : WholeRecord s) where
  years_list : map (value_of last_year) (row_at s 0 4 1) ≡ pos (last_year_of s) ∷ []
  years_list = rw (values last_year refl (row_at s 0 4 1), one_row s 0 4, years_field s h)

  cells_list : {b : ℕ} → start_of (last_year_of s) 2 ≡ b
      → take (cells (last_year_of s)) (padded 136 (pos 0) (map (value_of increment) (row_at s (start_of (last_year_of s) 2) 35 (cells (last_year_of s)))))
      ≡ map (value_of increment) (row_at s b 35 (cells (last_year_of s)))
  cells_list {b} e =
      let row = row_at s b 35 (cells (last_year_of s)) in
      rw (e, take_padded 136 (cells (last_year_of s)) (pos 0) (map (value_of increment) row) (length-map row (value_of increment) ∙ length_row s b 35 (cells (last_year_of s))))

  -- the fields of the record's figures are the record's
  pub list_same : list_of (figures_of s) ≡ fields_of s
  unfolding triangle_fields assumption_fields figures_of layout
  list_same =
      let k = last_year_of s in
      let at = starts k in
      let l = lists s h in
      simp append_assoc
      (rw (l.exposures, l.increments, l.indices, l.reporting, l.weight, l.ulae, l.tail, fields_are s h, years_list)
      (ap (λ (xs : List ℤ). pos k ∷ xs)
      (ap₂ ◌++◌ (row_list s 20 1 1000000 (k + 1) refl)
      (ap₂ ◌++◌ (cells_list (omega arith))
      (ap₂ ◌++◌ (row_list s 23 1 5000000 (k + 1) (omega arith))
      (ap₂ ◌++◌ (row_list s 20 0 1000000 (k + 1) (omega arith))
      (ap₂ ◌++◌ (field_list s weight refl 20 (omega arith))
      (ap₂ ◌++◌ (row_list s 34 0 10000000000 (k + 1) (omega arith)) (field_list s tail refl 34 (omega arith) ∙ sym (append-nil _))))))))))

  figures_years : (figures_of s).k ≡ last_year_of s
  unfolding figures_of
  figures_years = refl

  -- the first of them, which put_triangle puts, are k + 2 and the cells
  triangle_long : length (triangle_fields (figures_of s).k (figures_of s).exposures (figures_of s).increments) ≡ (figures_of s).k + 2 + cells (figures_of s).k
  unfolding triangle_fields figures_of
  triangle_long =
      let k = last_year_of s in
      let l = lists s h in
      let n = row_at s 4 20 (k + 1) in
      let c = map (value_of increment) (row_at s (start_of k 2) 35 (cells k)) in
      let cs : length c ≡ cells k = length-map (row_at s (start_of k 2) 35 (cells k)) (value_of increment) ∙ length_row s (start_of k 2) 35 (cells k) in
      rw (l.exposures, l.increments, take_padded 16 (k + 1) 0 n (length_row s 4 20 (k + 1)), take_padded 136 (cells k) (pos 0) c cs)
      (omega (arith, length-append (map pos n) c, length-map n pos, length_row s 4 20 (k + 1), cs))

  -- the fields put into a list from arrays that hold the figures
  pub fields_put : (list : List ℤ) {k at w a : ℕ} {n e b u : List ℕ} {p : List ℤ} → k ≡ last_year_of s → n ≡ (figures_of s).exposures → p ≡ (figures_of s).increments
      → e ≡ (figures_of s).indices → b ≡ (figures_of s).reporting → w ≡ (figures_of s).weight → u ≡ (figures_of s).ulae → a ≡ (figures_of s).tail → at ≡ k + 2 + cells k
      → sets (sets list 0 (triangle_fields k n p)) at (assumption_fields k e b w u a) ≡ sets list 0 (fields_of s)
  fields_put list {k} {at} years a2 a3 a4 a5 a6 a7 a8 place =
      let f = figures_of s in
      let a1 = years ∙ sym figures_years in
      let long : at ≡ 0 + length (triangle_fields f.k f.exposures f.increments) = place ∙ ap (λ (z : ℕ). z + 2 + cells z) a1 ∙ sym triangle_long ∙ sym (zero-add _) in
      rw (a1, a2, a3, a4, a5, a6, a7, a8)
      (sets_append (triangle_fields f.k f.exposures f.increments) (assumption_fields f.k f.indices f.reporting f.weight f.ulae f.tail) list 0 at long
      ∙ ap (sets list 0) list_same)
