-- The rows of a record in a list that starts with its fields: where each stands, and in its array. Assumes nothing.
use mathlib.Core.Path.{◌≡◌, refl, sym, ap, ◌∙◌}
use mathlib.Core.List.{List, [], ◌∷◌, ◌++◌, map, map-append}
use Prim.Native.Nat.{ℕ, zero, suc, ◌+◌, ◌-◌, ◌*◌, ◌≤◌, ◌<◌}
use native.Mathlib.Numerals.{add-one}
use native.Mathlib.Omega.{arith}
use lib.IntN.{ℤ, pos, nat_abs}
use lib.ListN.{length, get_or, set, take, drop, replicate, length-append, length-take, length-drop, length-map}
use Rattle.std.proofs.lemmas.List.{get_or-take}
use lib.Seq.{take-suc, take-append-le, drop-append-le, length-take-le, get_or-drop, drop-drop}
use Rattle.rules.specs.Lists.{padded, total}
use Rattle.rules.specs.Record.{Figures, figures, Kind, cells, layout, section, exposures_in, increments_in, indices_in, reporting_in, weight_in, ulae_in, tail_in, most_fields}
use Rattle.rules.specs.Writing.{given_at, write_into}
use Rattle.laws.proofs.Lists.{padded_more, take_padded}
use Rattle.laws.proofs.TriangleRows.{cells_most}
use Rattle.sheet_fields.specs.declared.Rows.{Rows}
use Rattle.sheet_fields.specs.FieldRows.{rows, rows_of}

-- a part of a list: how long it is, and its entries
pub part_length : (list : List ℤ) (at n : ℕ) → at + n ≤ length list → length (take (at + n - at) (drop at list)) ≡ n
part_length list at n h = omega (arith, length-take (at + n - at) (drop at list), length-drop at list)

pub part_at : (list : List ℤ) (at n i : ℕ) → i < n → get_or (take (at + n - at) (drop at list)) i (pos 0) ≡ get_or list (at + i) (pos 0)
part_at list at n i h = get_or-take (at + n - at) (drop at list) i (pos 0) (omega arith) ∙ get_or-drop at list i (pos 0)

-- one entry more in the array
pub sizes_more : (list : List ℤ) (at i v : ℕ) → i < 16 → at + i < length list → v ≡ nat_abs (get_or list (at + i) (pos 0))
    → set (padded 16 0 (map nat_abs (take i (drop at list)))) i v ≡ padded 16 0 (map nat_abs (take (i + 1) (drop at list)))
sizes_more list at i v h l e =
    let xs = drop at list in
    let long : i < length xs = omega (arith, length-drop at list) in
    let n = length-map (take i xs) nat_abs ∙ length-take-le i xs (omega arith) in
    let f : v ≡ nat_abs (get_or xs i (pos 0)) = e ∙ ap nat_abs (sym (get_or-drop at list i (pos 0))) in
    rw (f, add-one i, take-suc xs i (pos 0) long, map-append nat_abs (take i xs) (get_or xs i (pos 0) ∷ []))
    (padded_more 16 0 (map nat_abs (take i xs)) (nat_abs (get_or xs i (pos 0))) i n h)

-- one entry of a list
one_size : (ys : List ℤ) → get_or (map nat_abs (take 1 ys)) 0 0 ≡ nat_abs (get_or ys 0 (pos 0))
one_size [] = refl
one_size (y ∷ ys) = refl

-- where the weight stands: after k, the exposures, the increments, the indices and the reporting shares
abbrev weight_place : ℕ → ℕ
weight_place k = k + 2 + cells k + (k + 1) + (k + 1)

-- where each row stands
module _ (k : ℕ) (vs : List ℤ) where
  from : (m n p : ℕ) → p ≡ n + m → drop m (drop n vs) ≡ drop p vs
  from m n p e = rw (e) (drop-drop m n vs)

  pub exposures_at : exposures_in k vs ≡ map nat_abs (take (k + 1) (drop 1 vs))
  unfolding exposures_in section layout
  exposures_at = refl

  pub increments_at : increments_in k vs ≡ take (cells k) (drop (k + 2) vs)
  unfolding increments_in section layout
  increments_at = ap (take (cells k)) (from (k + 1) 1 (k + 2) (omega arith))

  -- the part after the increments
  later : drop (cells k) (drop (k + 1) (drop 1 vs)) ≡ drop (k + 2 + cells k) vs
  later = ap (drop (cells k)) (from (k + 1) 1 (k + 2) (omega arith)) ∙ from (cells k) (k + 2) (k + 2 + cells k) refl

  pub indices_at : indices_in k vs ≡ map nat_abs (take (k + 1) (drop (k + 2 + cells k) vs))
  unfolding indices_in section layout
  indices_at = rw (later)

  pub reporting_at : reporting_in k vs ≡ map nat_abs (take (k + 1) (drop (k + 2 + cells k + (k + 1)) vs))
  unfolding reporting_in section layout
  reporting_at = rw (later, from (k + 1) (k + 2 + cells k) (k + 2 + cells k + (k + 1)) refl)

  -- the part after the reporting shares, and the one after the ULAE totals
  past_reporting : drop (k + 1) (drop (k + 1) (drop (cells k) (drop (k + 1) (drop 1 vs)))) ≡ drop (weight_place k) vs
  past_reporting = rw (later, from (k + 1) (k + 2 + cells k) (k + 2 + cells k + (k + 1)) refl) (from (k + 1) (k + 2 + cells k + (k + 1)) (weight_place k) refl)

  past_ulae : drop (k + 1) (drop 1 (drop (weight_place k) vs)) ≡ drop (weight_place k + 1 + (k + 1)) vs
  past_ulae = rw (from 1 (weight_place k) (weight_place k + 1) refl) (from (k + 1) (weight_place k + 1) (weight_place k + 1 + (k + 1)) refl)

  -- a row of one entry
  one_at : (place : ℕ) → get_or (map nat_abs (take 1 (drop place vs))) 0 0 ≡ nat_abs (get_or vs place (pos 0))
  one_at place =
      let e : place + 0 ≡ place = omega arith in
      one_size (drop place vs) ∙ ap nat_abs (get_or-drop place vs 0 (pos 0)) ∙ rw (e)

  pub weight_at_lem : weight_in k vs ≡ nat_abs (get_or vs (weight_place k) (pos 0))
  unfolding weight_in section layout
  weight_at_lem = rw (past_reporting) (one_at (weight_place k))

  pub ulae_at_lem : ulae_in k vs ≡ map nat_abs (take (k + 1) (drop (weight_place k + 1) vs))
  unfolding ulae_in section layout
  ulae_at_lem = rw (past_reporting, from 1 (weight_place k) (weight_place k + 1) refl)

  pub tail_at : tail_in k vs ≡ nat_abs (get_or vs (weight_place k + 1 + (k + 1)) (pos 0))
  unfolding tail_in section layout
  tail_at = rw (past_reporting, past_ulae) (one_at (weight_place k + 1 + (k + 1)))

-- the rows as the code finds them
pub rows_of_are : (k n : ℕ) (vs : List ℤ) (exposures indices reporting : List ℕ) (weight : ℕ) (ulae : List ℕ) (tail : ℕ) → n ≡ cells k
    → exposures ≡ padded 16 0 (map nat_abs (take (k + 1) (drop 1 vs)))
    → indices ≡ padded 16 0 (map nat_abs (take (k + 1) (drop (k + 2 + n) vs)))
    → reporting ≡ padded 16 0 (map nat_abs (take (k + 1) (drop (k + 2 + n + (k + 1)) vs)))
    → weight ≡ nat_abs (get_or vs (k + 2 + n + (k + 1) + (k + 1)) (pos 0))
    → ulae ≡ padded 16 0 (map nat_abs (take (k + 1) (drop (k + 2 + n + (k + 1) + (k + 1) + 1) vs)))
    → tail ≡ nat_abs (get_or vs (k + 2 + n + (k + 1) + (k + 1) + 1 + (k + 1)) (pos 0))
    → rows exposures indices reporting weight ulae tail ≡ rows_of k vs
unfolding rows_of
rows_of_are k n vs exposures indices reporting weight ulae tail e a b c d f g =
    rw (a, b, c, d, f, g, e, exposures_at k vs, indices_at k vs, reporting_at k vs, weight_at_lem k vs, ulae_at_lem k vs, tail_at k vs)

-- as many entries as a row has
row_length : (n at : ℕ) (vs : List ℤ) → at + n ≤ length vs → length (map nat_abs (take n (drop at vs))) ≡ n
row_length n at vs h = length-map (take n (drop at vs)) nat_abs ∙ length-take-le n (drop at vs) (omega (arith, length-drop at vs))

-- a row in its array: it is in the front
module _ (n : ℕ) (xs ys : List ℕ) (e : xs ≡ padded 16 0 ys) (l : length ys ≡ n) (h : n ≤ 16) where
  pub array_fits : n ≤ length xs
  unfolding padded
  array_fits = rw (e) (omega (arith, length-append ys (replicate (16 - length ys) 0)))

  pub array_cut : n ≡ length (take n xs)
  array_cut = sym (length-take-le n xs array_fits)

  array_front : take n xs ≡ ys
  array_front = rw (e) (take_padded 16 n 0 ys l)

module _ (k : ℕ) (vs : List ℤ) (h : k < 16) (l : length vs ≡ most_fields) where
  exposures_count : length (exposures_in k vs) ≡ k + 1
  exposures_count = ap length (exposures_at k vs) ∙ row_length (k + 1) 1 vs (omega arith)

  indices_count : length (indices_in k vs) ≡ k + 1
  indices_count = ap length (indices_at k vs) ∙ row_length (k + 1) (k + 2 + cells k) vs (omega (arith, cells_most k h))

  reporting_count : length (reporting_in k vs) ≡ k + 1
  reporting_count = ap length (reporting_at k vs) ∙ row_length (k + 1) (k + 2 + cells k + (k + 1)) vs (omega (arith, cells_most k h))

  ulae_count : length (ulae_in k vs) ≡ k + 1
  ulae_count = ap length (ulae_at_lem k vs) ∙ row_length (k + 1) (weight_place k + 1) vs (omega (arith, cells_most k h))

  module _ (r : Rows) (e : r ≡ rows_of k vs) where
    exposures_row : r.exposures ≡ padded 16 0 (exposures_in k vs)
    unfolding rows_of
    exposures_row = ap (λ (x : Rows). x.exposures) e

    indices_row : r.indices ≡ padded 16 0 (indices_in k vs)
    unfolding rows_of
    indices_row = ap (λ (x : Rows). x.indices) e

    reporting_row : r.reporting ≡ padded 16 0 (reporting_in k vs)
    unfolding rows_of
    reporting_row = ap (λ (x : Rows). x.reporting) e

    weight_row : r.weight ≡ weight_in k vs
    unfolding rows_of
    weight_row = ap (λ (x : Rows). x.weight) e

    ulae_row : r.ulae ≡ padded 16 0 (ulae_in k vs)
    unfolding rows_of
    ulae_row = ap (λ (x : Rows). x.ulae) e

    tail_row : r.tail ≡ tail_in k vs
    unfolding rows_of
    tail_row = ap (λ (x : Rows). x.tail) e

    -- the front of each array has its row
    pub exposures_fit : k + 1 ≤ length r.exposures
    exposures_fit = array_fits (k + 1) r.exposures (exposures_in k vs) exposures_row exposures_count (omega arith)

    pub exposures_cut : k + 1 ≡ length (take (k + 1) r.exposures)
    exposures_cut = array_cut (k + 1) r.exposures (exposures_in k vs) exposures_row exposures_count (omega arith)

    pub indices_fit : k + 1 ≤ length r.indices
    indices_fit = array_fits (k + 1) r.indices (indices_in k vs) indices_row indices_count (omega arith)

    pub indices_cut : k + 1 ≡ length (take (k + 1) r.indices)
    indices_cut = array_cut (k + 1) r.indices (indices_in k vs) indices_row indices_count (omega arith)

    pub reporting_fit : k + 1 ≤ length r.reporting
    reporting_fit = array_fits (k + 1) r.reporting (reporting_in k vs) reporting_row reporting_count (omega arith)

    pub reporting_cut : k + 1 ≡ length (take (k + 1) r.reporting)
    reporting_cut = array_cut (k + 1) r.reporting (reporting_in k vs) reporting_row reporting_count (omega arith)

    pub ulae_fit : k + 1 ≤ length r.ulae
    ulae_fit = array_fits (k + 1) r.ulae (ulae_in k vs) ulae_row ulae_count (omega arith)

    pub ulae_cut : k + 1 ≡ length (take (k + 1) r.ulae)
    ulae_cut = array_cut (k + 1) r.ulae (ulae_in k vs) ulae_row ulae_count (omega arith)

    -- what the writer is given
    pub given_is : (n : ℕ) → n ≡ cells k
        → figures k (take (k + 1) r.exposures) (take (k + 2 + n - (k + 2)) (drop (k + 2) vs)) (take (k + 1) r.indices) (take (k + 1) r.reporting) r.weight
        (take (k + 1) r.ulae) r.tail
        ≡ given_at k vs
    unfolding given_at
    given_is n f =
        let m : k + 2 + n - (k + 2) ≡ cells k = omega arith in
        rw (
          array_front (k + 1) r.exposures (exposures_in k vs) exposures_row exposures_count (omega arith),
          array_front (k + 1) r.indices (indices_in k vs) indices_row indices_count (omega arith),
          array_front (k + 1) r.reporting (reporting_in k vs) reporting_row reporting_count (omega arith),
          array_front (k + 1) r.ulae (ulae_in k vs) ulae_row ulae_count (omega arith),
          weight_row,
          tail_row,
          m,
          increments_at k vs,
        )

-- the buffer, its front being l
pub same_written : (g h : Figures) (m n : ℕ) (buffer l : List ℕ) → g ≡ h → m ≡ n → l ≡ write_into g (take m buffer)
    → l ++ drop m buffer ≡ write_into h (take n buffer) ++ drop n buffer
same_written g h m n buffer l p q e = rw (e, p, q)

-- entries past the fields do not count
section_front : (rs : List (ℕ × Kind)) (i : ℕ) (xs ys : List ℤ) → total (map (λ r. r.0) rs) ≤ length xs → section rs i (xs ++ ys) ≡ section rs i xs
unfolding section total
section_front [] i xs ys h = refl
section_front (r ∷ rs) zero xs ys h = take-append-le r.0 xs ys (omega arith)
section_front (r ∷ rs) (suc i) xs ys h =
    rw (drop-append-le r.0 xs ys (omega arith)) (section_front rs i (drop r.0 xs) ys (omega (arith, length-drop r.0 xs)))

fields : (k n : ℕ) → cells k + 4 * k + 7 ≤ n → total (map (λ r. r.0) (layout k)) ≤ n
unfolding total layout
fields k n h = omega arith

pub given_front : (k : ℕ) (xs ys : List ℤ) → cells k + 4 * k + 7 ≤ length xs → given_at k (xs ++ ys) ≡ given_at k xs
unfolding given_at exposures_in increments_in indices_in reporting_in weight_in ulae_in tail_in
given_front k xs ys h =
    let f : (i : ℕ) → section (layout k) i (xs ++ ys) ≡ section (layout k) i xs = λ i. section_front (layout k) i xs ys (fields k (length xs) h) in
    rw (f 1, f 2, f 3, f 4, f 5, f 6, f 7)
