-- What a loop over rows knows: the rows that are left, where they are put, complete the n rows. Assumes nothing.
use mathlib.Core.Path.{◌≡◌}
use mathlib.Core.List.{List}
use Prim.Native.Nat.{ℕ, suc, ◌+◌, ◌-◌, ◌<◌}
use native.Mathlib.Nat.{sub-zero, add-zero}
use native.Mathlib.Omega.{arith}
use Rattle.composing.specs.Text.{Put}
use Rattle.composing.proofs.Puts.{put_none, put_append}
use Rattle.rows.specs.Rows.{next_row, rows_by, entries_in}
use Rattle.rows.specs.declared.Rows.{Rows}

-- after i rows of those that f makes
module _ (f : ℕ → ℕ → ℕ → ℕ → List ℕ) (n y : ℕ) (rows : Rows) (p : ℕ) where
  abbrev pub Begun : List ℕ → List ℕ → ℕ → ℕ → ℕ → Rows → ℕ → Type 0
  Begun a b at end i row from = (c : List ℕ) (k : ℕ) → Put b c end k (rows_by f (n - i) (y + i) row from) → Put a c at k (rows_by f n y rows p)

  pub rows_first : (a : List ℕ) (at : ℕ) → Begun a a at at 0 rows p
  rows_first a at c k q = rw (sub-zero, add-zero) at q

  pub rows_more : {a b c : List ℕ} {at end end' : ℕ} (i : ℕ) (row next : Rows) (from : ℕ) → i < n → Begun a b at end i row from
      → Put b c end end' (f (y + i) row.blank row.count from) → next ≡ next_row row → Begun a c at end' (i + 1) next (from + row.count)
  unfolding rows_by
  rows_more i row next from h begun q e c k rest =
      let left : n - i ≡ suc (n - (i + 1)) = omega arith in
      let later : y + (i + 1) ≡ suc (y + i) = omega arith in
      begun c k (rw left (put_append q (rw (e, later) at rest)))

  pub rows_last : {a b : List ℕ} {at end : ℕ} (i : ℕ) (row : Rows) (from : ℕ) → i ≡ n → Begun a b at end i row from → Put a b at end (rows_by f n y rows p)
  unfolding rows_by
  rows_last {a} {b} {at} {end} i row from e begun =
      let none : n - i ≡ 0 = omega arith in
      begun b end (rw none (put_none b end))

-- the entries of a row, and of those after it
pub entries_next : (n i : ℕ) (row : Rows) → i < n → entries_in (n - i) row ≡ row.count + entries_in (n - (i + 1)) (next_row row)
unfolding entries_in
entries_next n i row h =
    let left : n - i ≡ suc (n - (i + 1)) = omega arith in
    rw left
