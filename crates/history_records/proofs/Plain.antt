-- With plain assumptions, one index for every year among them, the writer takes every triangle whose exposures and increments are in range, and what it makes is a record
-- with that triangle. Assumes nothing.
use mathlib.Core.Path.{◌≡◌, refl, sym, ap, ◌∙◌}
use mathlib.Core.Bool.{Bool, true}
use mathlib.Core.List.{List, ◌∷◌, map}
use Prim.Native.Nat.{ℕ, zero, suc, ◌+◌, ◌≤◌}
use native.Mathlib.Omega.{arith}
use borrow.Author.Tests.{le-leb}
use lib.IntN.{ℤ, pos}
use lib.ListN.{length, get_or, replicate, length-replicate, length-map}
use Rattle.rules.specs.Lists.{total, every}
use Rattle.rules.specs.Record.{Kind, Figures, figures, million, most_index, last_year, exposure, increment, index, reporting, weight, ulae, tail, cells, layout, kinds_of, byte_count, in_range, every_field}
use Rattle.rules.specs.Writing.{given_fields, write_answer}
use Rattle.laws.proofs.Lists.{every_yes, up_to_self}
use Rattle.packing.proofs.Pack.{total_replicate}
use Rattle.layout.proofs.LayoutSections.{every_row, every_join}
use Rattle.record.proofs.RecordAnswers.{Taken, yes_writer}
use Rattle.record.proofs.Cut.{given_rows, join_given}

-- rows of one number
same_row : (κ : Kind) (x c : ℕ) → in_range κ (pos x) ≡ true → every (in_range κ) (map pos (replicate c x)) ≡ true
unfolding every
same_row κ x zero h = refl
same_row κ x (suc c) h = rw (h, same_row κ x c h)

-- the plainest assumptions are in range
year_range : (k : ℕ) → 1 ≤ k → k ≤ 15 → in_range last_year (pos k) ≡ true
unfolding in_range
year_range k some few = rw (le-leb 1 k some, le-leb k 15 few) refl

plain : (in_range reporting (pos million) ≡ true) × ((in_range reporting (pos 0) ≡ true) × ((in_range weight (pos 0) ≡ true) × ((in_range ulae (pos 0) ≡ true) × (in_range tail (pos 0) ≡ true))))
unfolding in_range
plain = (refl, (refl, (refl, (refl, refl))))

index_range : (e : ℕ) → 1 ≤ e → e ≤ most_index → in_range index (pos e) ≡ true
unfolding in_range
index_range e some few = rw (le-leb 1 e some, le-leb e most_index few) refl

-- a test of every entry, by place
pub every_place : (p : ℤ → Bool) (xs : List ℤ) → ((i : ℕ) → p (get_or xs i (pos 0)) ≡ true) → every p xs ≡ true
every_place p xs h = ap (every p) (sym (up_to_self xs (length xs) (pos 0) refl)) ∙ every_yes p (λ i. get_or xs i (pos 0)) (length xs) (λ i l. h i)

-- a triangle of the years 0 to k, its exposures and its increments
pub record Ranged (k : ℕ) (n : List ℕ) (p : List ℤ) : Type 0 where
  pub some : 1 ≤ k
  pub few : k ≤ 15
  pub exposures_long : length n ≡ k + 1
  pub increments_long : length p ≡ cells k
  pub exposures_range : every (in_range exposure) (map pos n) ≡ true
  pub increments_range : every (in_range increment) p ≡ true

module _ (k : ℕ) (n : List ℕ) (p : List ℤ) (ranged : Ranged k n p) (e : ℕ) (least : 1 ≤ e) (most : e ≤ most_index) where
  -- what the writer is given
  abbrev pub plainly : Figures
  plainly = figures k n p (replicate (k + 1) e) (million ∷ replicate k 0) 0 (replicate (k + 1) 0) 0

  same : length (replicate {A = ℕ} (k + 1) e) ≡ k + 1
  same = length-replicate {A = ℕ} (k + 1) e

  zeros : length (replicate {A = ℕ} (k + 1) 0) ≡ k + 1
  zeros = length-replicate {A = ℕ} (k + 1) 0

  reported : length (million ∷ replicate k 0) ≡ k + 1
  reported = omega (arith, length-replicate {A = ℕ} k 0)

  ranges : every_field in_range (kinds_of (layout k)) (given_fields plainly) ≡ true
  unfolding layout every
  ranges =
      ap (every_field in_range (kinds_of (layout k))) (sym (join_given plainly))
      ∙ every_join in_range (layout k) (given_rows plainly) (refl, (length-map n pos ∙ ranged.exposures_long, (ranged.increments_long, (length-map (replicate (k + 1) e) pos ∙ same, (length-map (million ∷ replicate k 0) pos ∙ reported, (refl, (length-map (replicate (k + 1) 0) pos ∙ zeros, (refl, tt))))))))
      ∙ rw (
        year_range k ranged.some ranged.few,
        ranged.exposures_range,
        ranged.increments_range,
        same_row index e (k + 1) (index_range e least most),
        plain.0,
        same_row reporting 0 k plain.1.0,
        plain.1.1.0,
        same_row ulae 0 (k + 1) plain.1.1.1.0,
        plain.1.1.1.1,
      )
      refl

  taken : Taken plainly (byte_count k)
  unfolding total
  taken = record {
    years = ranged.some;
    most = ranged.few;
    size = refl;
    exposures = ranged.exposures_long;
    increments = ranged.increments_long;
    indices = same;
    reporting = reported;
    ulae = zeros;
    ranges = ranges;
    sum = omega (arith, total_replicate k 0);
  }

  pub plainly_taken : write_answer plainly (byte_count k) ≡ 0
  plainly_taken = yes_writer _ _ taken
