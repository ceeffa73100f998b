-- What is known of the numbers while the lines are as due: how many they are, and k. Assumes nothing.
use mathlib.Core.Path.{◌≡◌, refl, sym, ap, ◌∙◌}
use mathlib.Core.Bool.{Bool, true, false, cond, not, ◌&&◌, false≢true, true≢false}
use mathlib.Core.List.{List, [], ◌∷◌, ◌++◌, map, append-nil}
use Prim.Native.Nat.{ℕ, zero, suc, ◌+◌, ◌*◌, ◌≤◌}
use native.Mathlib.Omega.{arith}
use borrow.Author.Tests.{eqb-true, eqb-false, leb-true}
use lib.Dec.{eqb, leb}
use lib.IntN.{ℤ, pos, negsuc, nat_abs}
use lib.ListN.{length, length-append, length-map}
use lib.Signed.{le_z}
use Rattle.rules.specs.Lists.{every, up_to, total}
use Rattle.rules.specs.Record.{cells}
use Rattle.laws.proofs.Lists.{both_left, both_right, length_up_to}
use Rattle.laws.proofs.Totals.{total_part}
use Rattle.rules.specs.Inflation.{index_after}
use Rattle.rules.specs.History.{most_history}
use Rattle.scanning.specs.Parts.{same_text_of}
use Rattle.scanning.specs.Numbers.{is_number, whole_of}
use Rattle.cells.specs.Cells.{is_bare, label_of, cells_of, content_of, is_within}
use Rattle.inflation_line.specs.InflationLine.{is_inflation, shape_of, fault_in}
use Rattle.sheet.specs.declared.Due.{Due}
use Rattle.sheet.specs.Table.{label_due, indices_place, history_due_at, due_at, lines_in, due_in, start_in, most_first, room_in}
use Rattle.sheet.specs.Sheet.{last_year_in, wrong, wrong_in, word_in, Typed, typed, fine, lines, unmarked, read_line, stands_for_indices, indices_made, read_next, read_lines, read_text, read_sheet}
use Rattle.sheet.proofs.Table.{start_more, start_all, due_indices}
use Rattle.history_sheet.proofs.Lines.{first_most, lines_most, all_room, line_room}
use Rattle.line_reading.specs.Reads.{Good}

-- a line that is as due
pub record AsDue (d : Due) (line : List ℕ) : Type 0 where
  pub count : length (cells_of line) ≡ d.count
  pub ranges : every (is_within d.least d.most) (cells_of line) ≡ true

pub as_due : (d : Due) (line : List ℕ) → (wrong_in d line).problem ≡ 0 → AsDue d line
unfolding wrong_in
as_due d line h =
    go (same_text_of (label_of line) (label_due d)) (every is_number (cells_of line)) (eqb (length (cells_of line)) d.count) refl
    (every (is_within d.least d.most) (cells_of line)) refl _ _ h
  where
    go : (a b c : Bool) → eqb (length (cells_of line)) d.count ≡ c → (e : Bool) → every (is_within d.least d.most) (cells_of line) ≡ e
        → (x y : ℕ)
        → (cond a (cond b (cond c (cond e (wrong 0 0) (wrong 4 x)) (wrong 3 (length (cells_of line)))) (wrong 2 y)) (wrong 1 0)).problem ≡ 0
        → AsDue d line
    go true true true f true g x y z = record { count = eqb-true (length (cells_of line)) d.count f; ranges = g }
    go true true true f false g x y z = absurd (omega arith)
    go true true false f e g x y z = absurd (omega arith)
    go true false c f e g x y z = absurd (omega arith)
    go false b c f e g x y z = absurd (omega arith)

-- the first number, by the one cell of its line
first_range : (least most : ℕ) (v : ℤ) → le_z (pos least) v && le_z v (pos most) ≡ true → (least ≤ nat_abs v) × (nat_abs v ≤ most)
first_range least most (pos n) h = (leb-true least n (both_left (leb least n) (leb n most) h), leb-true n most (both_right (leb least n) (leb n most) h))
first_range least most (negsuc n) h = absurd (false≢true h)

first_cell : (least most : ℕ) (cs : List (List ℕ)) → length cs ≡ 1 → every (is_within (pos least) (pos most)) cs ≡ true
    → (least ≤ last_year_in (map whole_of cs)) × (last_year_in (map whole_of cs) ≤ most)
unfolding every is_within
first_cell least most [] e h = absurd (omega arith)
first_cell least most (w ∷ []) e h = first_range least most (whole_of w) (both_left (le_z (pos least) (whole_of w) && le_z (whole_of w) (pos most)) true h)
first_cell least most (w ∷ x ∷ cs) e h = absurd (omega arith)

-- the first line due takes one number, from the least, 2 years or k = 1, to the most
abbrev least_first : Bool → ℕ
least_first true = 2
least_first false = 1

some_first : (history : Bool) → 1 ≤ least_first history
some_first true = omega arith
some_first false = omega arith

first_due : (history : Bool) → ((due_in history 0 0).count ≡ 1) × (((due_in history 0 0).least ≡ pos (least_first history)) × ((due_in history 0 0).most ≡ pos (most_first history)))
unfolding history_due_at due_at
first_due true = (refl, (refl, refl))
first_due false = (refl, (refl, refl))

start_one : (history : Bool) (n : ℕ) → start_in history n 1 ≡ 1
unfolding start_in history_due_at due_at up_to total
start_one true n = refl
start_one false n = refl

one_line : (history : Bool) (n : ℕ) → 1 ≤ lines_in history n
one_line true n = omega arith
one_line false n = omega arith

-- before the first line
pub good_none : (history : Bool) → Good history [] 0 0
unfolding start_in up_to total
good_none history = record { size = refl; start = refl; within = omega arith; few = omega arith; some = λ h. absurd (omega arith) }

-- after the first line there are numbers
pub started : (history : Bool) (i m : ℕ) → Good history [] (suc i) m → ⊥
unfolding start_in
started history i m g =
    omega (arith, g.size, g.start, start_one history 0, total_part (λ j. (due_in history 0 j).count) 1 (suc i) (omega arith))

-- after a line that is as due
pub good_more : (history : Bool) (vs : List ℤ) (i m : ℕ) (line : List ℕ) → Good history vs i m → (i ≡ lines_in history (last_year_in vs) → ⊥)
    → AsDue (due_in history (last_year_in vs) i) line → Good history (vs ++ map whole_of (cells_of line)) (suc i) (m + (due_in history (last_year_in vs) i).count)
unfolding start_in up_to total
good_more history [] zero m line g left a =
    let d = first_due history in
    let ranges : every (is_within (pos (least_first history)) (pos (most_first history))) (cells_of line) ≡ true = rw (d.1.0, d.1.1) at a.ranges in
    let first = first_cell (least_first history) (most_first history) (cells_of line) (a.count ∙ d.0) ranges in
    record {
      size = omega (arith, g.size, length-map (cells_of line) whole_of, a.count);
      start = omega (arith, g.size, d.0, start_one history (last_year_in (map whole_of (cells_of line))));
      within = one_line history (last_year_in (map whole_of (cells_of line)));
      few = first.1;
      some = λ h. omega (arith, first.0, some_first history);
    }
good_more history (v ∷ vs) zero m line g left a = absurd (omega (arith, g.size, g.start))
good_more history [] (suc i) m line g left a = absurd (started history i m g)
good_more history (v ∷ vs) (suc i) m line g left a =
    record {
      size = omega (arith, g.size, length-append vs (map whole_of (cells_of line)), length-map (cells_of line) whole_of, a.count);
      start = omega (arith, g.start, start_more history (nat_abs v) (suc i));
      within = omega (arith, g.within);
      few = g.few;
      some = λ h. g.some (omega arith);
    }

-- after a line of inflation, which stands for the indices
pub good_indices : (history : Bool) (vs : List ℤ) (i m : ℕ) (xs : List ℤ) → history ≡ false → Good history vs i m → i ≡ indices_place (last_year_in vs)
    → length xs ≡ last_year_in vs + 1 → Good history (vs ++ xs) (suc i) (m + (last_year_in vs + 1))
good_indices true vs i m xs f g e c = absurd (true≢false f)
good_indices false [] zero m xs f g e c = absurd (omega arith)
good_indices false [] (suc i) m xs f g e c = absurd (started false i m g)
good_indices false (v ∷ vs) i m xs f g e c =
    let count : (due_at (nat_abs v) i).count ≡ nat_abs v + 1 = ap (λ (d : Due). d.count) (due_indices (nat_abs v) i e) in
    record {
      size = omega (arith, g.size, length-append vs xs);
      start = omega (arith, g.start, start_more false (nat_abs v) i);
      within = omega arith;
      few = g.few;
      some = λ h. g.some (omega arith);
    }

-- the places are few
pub good_place : (history : Bool) (vs : List ℤ) (i m : ℕ) → Good history vs i m → i ≤ most_history + 8
good_place history vs i m g = omega (arith, g.within, lines_most history (last_year_in vs), first_most history (last_year_in vs) g.few)

-- room for the numbers of the next line, and for those so far
pub good_room : (history : Bool) (vs : List ℤ) (i m : ℕ) → Good history vs i m → (i ≡ lines_in history (last_year_in vs) → ⊥)
    → m + (due_in history (last_year_in vs) i).count ≤ room_in history
good_room history vs i m g h = omega (arith, g.start, line_room history (last_year_in vs) i g.few (omega (arith, g.within)))

pub good_most : (history : Bool) (vs : List ℤ) (i m : ℕ) → Good history vs i m → m ≤ room_in history
unfolding start_in
good_most history vs i m g =
    let n = last_year_in vs in
    omega (arith, g.start, total_part (λ j. (due_in history n j).count) i (lines_in history n) g.within, all_room history n g.few)

-- what is known of a reading: the first number is at most what it may be, there is room for the numbers, and where nothing is wrong the first is from 1, and there are
-- as many numbers as it calls for
pub record LinesKnown (history : Bool) (t : Typed) : Type 0 where
  pub few : last_year_in t.numbers ≤ most_first history
  pub most : length t.numbers ≤ room_in history
  pub some : t.problem ≡ 0 → 1 ≤ last_year_in t.numbers
  pub count : t.problem ≡ 0 → length t.numbers ≡ start_in history (last_year_in t.numbers) (lines_in history (last_year_in t.numbers))

-- what a line of the text comes to after the numbers vs: it adds numbers or none, and where nothing is wrong all is known as before
pub record Step (history : Bool) (n : ℕ) (vs : List ℤ) (t : Typed) : Type 0 where
  pub line : t.line ≡ n
  pub new : List ℤ
  pub added : t.numbers ≡ vs ++ new
  pub few : last_year_in t.numbers ≤ most_first history
  pub most : length t.numbers ≤ room_in history
  pub plain : t.problem ≡ 0 → t ≡ fine t.line t.place t.numbers
  pub good : t.problem ≡ 0 → Good history t.numbers t.place (length t.numbers)

-- nothing is added
step_none : (history : Bool) (p n i c : ℕ) (w : List ℕ) (vs : List ℤ) → Good history vs i (length vs) → (p ≡ 0 → ⊥) → Step history n vs (typed p n i c w vs)
step_none history p n i c w vs g h =
    record { line = refl; new = []; added = sym (append-nil vs); few = g.few; most = good_most history vs i (length vs) g; plain = λ e. absurd (h e); good = λ e. absurd (h e) }

pub line_step : (history : Bool) (n i : ℕ) (vs : List ℤ) (line : List ℕ) → Good history vs i (length vs) → Step history n vs (read_line history n i vs line)
unfolding read_line
line_step history n i vs line g =
    go (is_bare line) (eqb i (lines_in history (last_year_in vs))) refl (eqb (wrong_in (due_in history (last_year_in vs) i) line).problem 0) refl
  where
    go : (a b : Bool) → eqb i (lines_in history (last_year_in vs)) ≡ b → (c : Bool) → eqb (wrong_in (due_in history (last_year_in vs) i) line).problem 0 ≡ c
        → Step history n vs (cond a (fine n i vs) (cond b (typed 6 n i 0 (label_of line) vs)
        (cond c (fine n (suc i) (vs ++ map whole_of (cells_of line)))
        (typed (wrong_in (due_in history (last_year_in vs) i) line).problem n i (wrong_in (due_in history (last_year_in vs) i) line).cell (word_in (wrong_in (due_in history (last_year_in vs) i) line) line) vs))))
    go true b e c f = record { line = refl; new = []; added = sym (append-nil vs); few = g.few; most = good_most history vs i (length vs) g; plain = λ h. refl; good = λ h. g }
    go false true e c f = step_none history 6 n i 0 (label_of line) vs g (λ h. omega arith)
    go false false e true f =
        let due = as_due (due_in history (last_year_in vs) i) line (eqb-true _ 0 f) in
        let more = good_more history vs i (length vs) line g (eqb-false i (lines_in history (last_year_in vs)) e) due in
        record {
          line = refl;
          new = map whole_of (cells_of line);
          added = refl;
          few = more.few;
          most = rw more.size (good_most history _ _ _ more);
          plain = λ h. refl;
          good = λ h. record { size = refl; start = more.size ∙ more.start; within = more.within; few = more.few; some = more.some };
        }
    go false false e false f = step_none history _ n i _ _ vs g (eqb-false _ 0 f)

-- what a line of inflation that stands for the indices says of the text and of its place, and how many they are
pub stands_figures : (history : Bool) (k i : ℕ) (line : List ℕ) → stands_for_indices history k i line ≡ true → history ≡ false
unfolding stands_for_indices
stands_figures true k i line h = absurd (false≢true h)
stands_figures false k i line h = refl

pub stands_place : (history : Bool) (k i : ℕ) (line : List ℕ) → stands_for_indices history k i line ≡ true → i ≡ indices_place k
unfolding stands_for_indices
stands_place history k i line h =
    let named : Bool = is_inflation line && eqb (fault_in (k + 1) line).kind 0 in
    eqb-true i (indices_place k) (both_left (eqb i (indices_place k)) named (both_right (not history) (eqb i (indices_place k) && named) h))

pub made_count : (k : ℕ) (line : List ℕ) → length (map pos (indices_made k line)) ≡ k + 1
unfolding indices_made
made_count k line = length-map (up_to (index_after (shape_of line)) (k + 1)) pos ∙ length_up_to (index_after (shape_of line)) (k + 1)

pub next_step : (history : Bool) (n i : ℕ) (vs : List ℤ) (line : List ℕ) → Good history vs i (length vs) → Step history n vs (read_next history n i vs line)
unfolding read_next
next_step history n i vs line g = go (stands_for_indices history (last_year_in vs) i line) refl
  where
    go : (b : Bool) → stands_for_indices history (last_year_in vs) i line ≡ b
        → Step history n vs (cond b (fine n (suc i) (vs ++ map pos (indices_made (last_year_in vs) line))) (read_line history n i vs line))
    go true e =
        let k = last_year_in vs in
        let more = good_indices history vs i (length vs) (map pos (indices_made k line)) (stands_figures history k i line e) g (stands_place history k i line e) (made_count k line) in
        record {
          line = refl;
          new = map pos (indices_made (last_year_in vs) line);
          added = refl;
          few = more.few;
          most = rw more.size (good_most history _ _ _ more);
          plain = λ h. refl;
          good = λ h. record { size = refl; start = more.size ∙ more.start; within = more.within; few = more.few; some = more.some };
        }
    go false e = line_step history n i vs line g

-- after all of them
lines_known : (history : Bool) (t : Typed) (ls : List (List ℕ)) → t.problem ≡ 0 → Good history t.numbers t.place (length t.numbers) → LinesKnown history (read_lines history t ls)
unfolding read_lines
lines_known history t [] h g = go (eqb t.place (lines_in history (last_year_in t.numbers))) refl
  where
    go : (b : Bool) → eqb t.place (lines_in history (last_year_in t.numbers)) ≡ b → LinesKnown history (cond b t (typed 5 t.line t.place 0 [] t.numbers))
    go true e =
        let last = eqb-true t.place (lines_in history (last_year_in t.numbers)) e in
        record {
          few = g.few;
          most = good_most history t.numbers t.place (length t.numbers) g;
          some = λ z. g.some (omega (arith, one_line history (last_year_in t.numbers)));
          count = λ z. g.start ∙ ap (start_in history (last_year_in t.numbers)) last;
        }
    go false e = record { few = g.few; most = good_most history t.numbers t.place (length t.numbers) g; some = λ z. absurd (omega arith); count = λ z. absurd (omega arith) }
lines_known history t (l ∷ ls) h g =
    let u = read_next history (suc t.line) t.place t.numbers (content_of l) in
    let s = next_step history (suc t.line) t.place t.numbers (content_of l) g in
    go u s (eqb u.problem 0) refl (λ z. lines_known history u ls z (s.good z))
  where
    go : (u : Typed) → Step history (suc t.line) t.numbers u → (b : Bool) → eqb u.problem 0 ≡ b → (u.problem ≡ 0 → LinesKnown history (read_lines history u ls))
        → LinesKnown history (cond b (read_lines history u ls) u)
    go u s true e f = f (eqb-true u.problem 0 e)
    go u s false e f =
        let no = eqb-false u.problem 0 e in
        record { few = s.few; most = s.most; some = λ z. absurd (no z); count = λ z. absurd (no z) }

pub text_known : (history : Bool) (text : List ℕ) → LinesKnown history (read_text history text)
unfolding read_text
text_known history text = lines_known history (fine 0 0 []) (lines (unmarked text)) refl (good_none history)

-- of figures: how many fields of a record there are
pub sheet_count : (text : List ℕ) → (read_sheet text).problem ≡ 0
    → length (read_sheet text).numbers ≡ cells (last_year_in (read_sheet text).numbers) + 4 * last_year_in (read_sheet text).numbers + 7
sheet_count text h = (text_known false text).count h ∙ start_all (last_year_in (read_sheet text).numbers)
