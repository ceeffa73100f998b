-- What a history that is read has: lengths and ranges, so that the call takes it. Assumes nothing.
use mathlib.Core.Path.{◌≡◌, refl, sym, ap, ap₂, ◌∙◌}
use mathlib.Core.Bool.{Bool, true, false, cond, false≢true}
use mathlib.Core.List.{List, [], ◌∷◌, ◌++◌, map}
use Prim.Native.Nat.{ℕ, suc, ◌+◌, ◌≤◌, ◌<◌}
use native.Mathlib.Omega.{arith}
use borrow.Author.Tests.{leb-true, le-leb, eq-eqb, ne_eqb, lt-ltb, le-ltb}
use lib.Dec.{leb}
use lib.IntN.{ℤ, pos, negsuc, neg_ℤ, nat_abs}
use lib.ListN.{length, get_or, get_or-append, drop}
use lib.Seq.{sets, sets-eq}
use Rattle.rules.specs.Lists.{every, up_to}
use Rattle.rules.specs.Questions.{first_no}
use Rattle.rules.specs.Record.{in_range, exposure, increment, million, most_amount}
use Rattle.rules.specs.History.{most_history, least_width, most_width, development_years, history_cells, history_count, width_passes, lengths_pass, history_passes, history_questions, history_answer}
use Rattle.laws.proofs.Lists.{both_left, both_right, length_up_to, every_yes, up_to_ext, up_to_self, up_to_both, map_up_to}
use Rattle.sheet.specs.Table.{most_numbers}
use Rattle.sheet.specs.Sheet.{last_year_in, read_history}
use Rattle.line_reading.proofs.Known.{text_known}
use Rattle.history_sheet.proofs.Lines.{history_all}
use Rattle.history_parts.specs.Parts.{width_in, exposures_after, increments_after}
use Rattle.history_reading.proofs.Ranges.{inside, range_at, Sound, history_sound}

-- a number in the range of a width, of an exposure, of an increment
width_inside : (most : ℕ) (v : ℤ) → inside (pos least_width, pos most) v ≡ true → (least_width ≤ nat_abs v) × (nat_abs v ≤ most)
width_inside most (pos n) h = (leb-true 2 n (both_left (leb 2 n) (leb n most) h), leb-true n most (both_right (leb 2 n) (leb n most) h))
width_inside most (negsuc n) h = absurd (false≢true h)

whole_inside : (least most : ℕ) (v : ℤ) → inside (pos least, pos most) v ≡ true → pos (nat_abs v) ≡ v
whole_inside least most (pos n) h = refl
whole_inside least most (negsuc n) h = absurd (false≢true h)

exposure_inside : (v : ℤ) → inside (pos 1, pos million) v ≡ true → in_range exposure (pos (nat_abs v)) ≡ true
unfolding in_range
exposure_inside (pos n) h = h
exposure_inside (negsuc n) h = absurd (false≢true h)

increment_inside : (v : ℤ) → inside (neg_ℤ (pos most_amount), pos most_amount) v ≡ true → in_range increment v ≡ true
unfolding in_range
increment_inside (pos n) h = rw (le-leb 0 n (omega arith)) h
increment_inside (negsuc n) h =
    let most = leb-true n 9_999_999_999 (both_left (leb n 9_999_999_999) true h) in
    rw (le-leb 0 (suc n) (omega arith), le-leb (suc n) most_amount (omega (arith, most)))

range_exposure : (years i : ℕ) → i < years → range_at years (2 + i) ≡ (pos 1, pos million)
unfolding range_at
range_exposure years i l = rw (ne_eqb (2 + i) 0 (λ e. omega arith), ne_eqb (2 + i) 1 (λ e. omega arith), lt-ltb (2 + i) (2 + years) (omega arith))

range_increment : (years i : ℕ) → range_at years (2 + years + i) ≡ (neg_ℤ (pos most_amount), pos most_amount)
unfolding range_at
range_increment years i =
    rw (ne_eqb (2 + years + i) 0 (λ e. omega arith), ne_eqb (2 + years + i) 1 (λ e. omega arith), le-ltb (2 + years + i) (2 + years) (omega arith))

-- of a list whose front is stored, a number of the front
pub stored_at : (list vs : List ℤ) (j : ℕ) → length vs ≤ length list → j < length vs → get_or (sets list 0 vs) j (pos 0) ≡ get_or vs j (pos 0)
stored_at list vs j h l = ap (λ (xs : List ℤ). get_or xs j (pos 0)) (sets-eq vs list 0 (omega arith)) ∙ get_or-append vs (drop (0 + length vs) list) (pos 0) j l

module _ (text : List ℕ) (right : (read_history text).problem ≡ 0) where
  abbrev vs : List ℤ
  vs = (read_history text).numbers

  abbrev years : ℕ
  years = last_year_in vs

  pub read_years : (1 ≤ years) × (years ≤ most_history)
  read_years = ((text_known true text).some right, (text_known true text).few)

  pub read_count : length vs ≡ 2 + years + history_cells years
  read_count = (text_known true text).count right ∙ history_all years

  -- number j stands in its range
  at_place : (j : ℕ) → j < length vs → inside (range_at years j) (get_or vs j (pos 0)) ≡ true
  unfolding Sound
  at_place j l = history_sound text right j l

  pub read_width : (least_width ≤ width_in vs) × ((width_in vs ≤ most_width) × (width_in vs ≤ years))
  unfolding width_in range_at development_years
  read_width =
      let width = width_inside (development_years years 0) (get_or vs 1 (pos 0)) (at_place 1 (omega (arith, read_count))) in
      (width.0, (omega (arith, width.1), omega (arith, width.1)))

  pub read_exposures : every (λ (x : ℕ). in_range exposure (pos x)) (exposures_after years vs) ≡ true
  unfolding exposures_after
  read_exposures =
      every_yes (λ (x : ℕ). in_range exposure (pos x)) (λ (i : ℕ). nat_abs (get_or vs (2 + i) (pos 0))) years
      (λ i l. exposure_inside (get_or vs (2 + i) (pos 0)) (rw (range_exposure years i l) at (at_place (2 + i) (omega (arith, read_count)))))

  pub read_increments : every (in_range increment) (increments_after years vs) ≡ true
  unfolding increments_after
  read_increments =
      every_yes (in_range increment) (λ (i : ℕ). get_or vs (2 + years + i) (pos 0)) (history_cells years)
      (λ i l. increment_inside (get_or vs (2 + years + i) (pos 0)) (rw (range_increment years i) at (at_place (2 + years + i) (omega (arith, read_count)))))

  exposures_long : length (exposures_after years vs) ≡ years
  unfolding exposures_after
  exposures_long = length_up_to (λ (i : ℕ). nat_abs (get_or vs (2 + i) (pos 0))) years

  increments_long : length (increments_after years vs) ≡ history_cells years
  unfolding increments_after
  increments_long = length_up_to (λ (i : ℕ). get_or vs (2 + years + i) (pos 0)) (history_cells years)

  -- they are all the numbers there are
  first_two : up_to (λ (i : ℕ). get_or vs i (pos 0)) 2 ≡ pos years ∷ pos (width_in vs) ∷ []
  unfolding up_to width_in range_at
  first_two =
      ap₂ (λ (v w : ℤ). v ∷ w ∷ []) (sym (whole_inside least_width most_history (get_or vs 0 (pos 0)) (at_place 0 (omega (arith, read_count)))))
      (sym (whole_inside least_width (development_years years 0) (get_or vs 1 (pos 0)) (at_place 1 (omega (arith, read_count)))))

  whole_exposures : up_to (λ (i : ℕ). get_or vs (2 + i) (pos 0)) years ≡ map pos (exposures_after years vs)
  unfolding exposures_after
  whole_exposures =
      up_to_ext _ _ years (λ i l. sym (whole_inside 1 million (get_or vs (2 + i) (pos 0)) (rw (range_exposure years i l) at (at_place (2 + i) (omega (arith, read_count))))))
      ∙ sym (map_up_to pos (λ (i : ℕ). nat_abs (get_or vs (2 + i) (pos 0))) years)

  pub read_numbers : vs ≡ pos years ∷ pos (width_in vs) ∷ (map pos (exposures_after years vs) ++ increments_after years vs)
  unfolding increments_after
  read_numbers =
      let f : ℕ → ℤ = λ i. get_or vs i (pos 0) in
      sym (up_to_self vs (2 + years + history_cells years) (pos 0) read_count)
      ∙ up_to_both f (2 + years) (history_cells years)
      ∙ ap (λ (xs : List ℤ). xs ++ up_to (λ (i : ℕ). f (2 + years + i)) (history_cells years)) (up_to_both f 2 years ∙ ap₂ ◌++◌ first_two whole_exposures)

  -- with a result as long as needed the call answers 0
  pub read_answer : history_answer years (width_in vs) (exposures_after years vs) (increments_after years vs) (history_count years (width_in vs)) ≡ 0
  unfolding history_answer history_questions width_passes history_passes lengths_pass first_no
  read_answer =
      rw (
        le-leb years most_history read_years.1,
        le-leb least_width (width_in vs) read_width.0,
        le-leb (width_in vs) most_width read_width.1.0,
        le-leb (width_in vs) years read_width.1.1,
        eq-eqb (length (exposures_after years vs)) years exposures_long,
        eq-eqb (length (increments_after years vs)) (history_cells years) increments_long,
        eq-eqb (history_count years (width_in vs)) (history_count years (width_in vs)) refl,
        read_exposures,
        read_increments,
      )
      refl

  -- the list that they are stored in has them too
  module _ (list : List ℤ) (long : length list ≡ most_numbers) where
    room : length vs ≤ length list
    room = omega (arith, long, (text_known true text).most)

    pub stored_exposures : exposures_after years (sets list 0 vs) ≡ exposures_after years vs
    unfolding exposures_after
    stored_exposures = up_to_ext _ _ years (λ i l. ap nat_abs (stored_at list vs (2 + i) room (omega (arith, read_count))))

    pub stored_increments : increments_after years (sets list 0 vs) ≡ increments_after years vs
    unfolding increments_after
    stored_increments = up_to_ext _ _ (history_cells years) (λ i l. stored_at list vs (2 + years + i) room (omega (arith, read_count)))
