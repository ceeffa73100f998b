-- Every number of a history that is read stands in its range. Assumes nothing.
use mathlib.Core.Path.{◌≡◌, refl, ap, ◌∙◌}
use mathlib.Core.Bool.{Bool, true, false, cond, ◌&&◌}
use mathlib.Core.List.{List, [], ◌∷◌, ◌++◌, map}
use Prim.Native.Nat.{ℕ, zero, suc, ◌+◌, ◌-◌, ◌<◌}
use native.Mathlib.Decide.{dec_lt}
use native.Mathlib.Omega.{arith}
use borrow.Author.Tests.{eqb-true, eqb-false, ne_eqb, lt-ltb, le-ltb}
use lib.Dec.{eqb, ltb}
use lib.IntN.{ℤ, pos, neg_ℤ, nat_abs}
use lib.ListN.{length, get_or, length-append, length-map, get_or-append}
use lib.Seq.{get_or-append-add}
use lib.Signed.{le_z}
use Rattle.rules.specs.Lists.{every, up_to, total}
use Rattle.rules.specs.Record.{million, most_amount}
use Rattle.rules.specs.History.{most_history, least_width, development_years}
use Rattle.laws.proofs.Lists.{every_at}
use Rattle.scanning.specs.Numbers.{whole_of}
use Rattle.cells.specs.Cells.{is_bare, label_of, cells_of, content_of, is_within}
use Rattle.sheet.specs.declared.Due.{Due}
use Rattle.sheet.specs.Table.{history_due_at, lines_in, start_in}
use Rattle.sheet.specs.Sheet.{last_year_in, wrong_in, word_in, Typed, typed, fine, lines, unmarked, read_line, stands_for_indices, read_next, read_lines, read_text, read_history}
use Rattle.line_reading.specs.Reads.{Good}
use Rattle.line_reading.proofs.Known.{AsDue, as_due, next_step, good_none, started}
use Rattle.history_sheet.proofs.Lines.{history_paid_lem, history_start_lem}

-- whether a number is within a range
abbrev pub inside : ℤ × ℤ → ℤ → Bool
inside range v = le_z range.0 v && le_z v range.1

-- the range of number j of a history of so many years
unfoldable pub range_at : ℕ → ℕ → ℤ × ℤ
range_at years j =
    cond (eqb j 0) (pos least_width, pos most_history)
    (cond (eqb j 1) (pos least_width, pos (development_years years 0)) (cond (ltb j (2 + years)) (pos 1, pos million) (neg_ℤ (pos most_amount), pos most_amount)))

-- it is that of the line that has it
abbrev range_of : Due → ℤ × ℤ
range_of d = (d.least, d.most)

range_due : (years i j : ℕ) → j < (history_due_at years i).count → range_at years (start_in true years i + j) ≡ range_of (history_due_at years i)
unfolding range_at history_due_at start_in up_to total
range_due years zero zero l = refl
range_due years zero (suc j) l = absurd (omega arith)
range_due years (suc zero) zero l = refl
range_due years (suc zero) (suc j) l = absurd (omega arith)
range_due years (suc (suc zero)) j l =
    rw (ne_eqb (2 + j) 0 (λ e. omega arith), ne_eqb (2 + j) 1 (λ e. omega arith), lt-ltb (2 + j) (2 + years) (omega arith))
range_due years (suc (suc (suc i))) j l =
    let n : ℕ = start_in true years (suc (suc (suc i))) + j in
    let start = history_start_lem years i in
    rw (ne_eqb n 0 (λ e. omega (arith, start)), ne_eqb n 1 (λ e. omega (arith, start)), le-ltb n (2 + years) (omega (arith, start)), history_paid_lem years i)

-- every number so far is in its range
unfoldable pub Sound : List ℤ → Type 0
Sound vs = (j : ℕ) → j < length vs → inside (range_at (last_year_in vs) j) (get_or vs j (pos 0)) ≡ true

-- a number of a line that is as due
whole_at_lem : (cs : List (List ℕ)) (j : ℕ) → j < length cs → get_or (map whole_of cs) j (pos 0) ≡ whole_of (get_or cs j [])
whole_at_lem [] j l = absurd (omega arith)
whole_at_lem (w ∷ cs) zero l = refl
whole_at_lem (w ∷ cs) (suc j) l = whole_at_lem cs j (omega arith)

new_inside : (d : Due) (line : List ℕ) → AsDue d line → (j : ℕ) → j < length (cells_of line) → inside (range_of d) (get_or (map whole_of (cells_of line)) j (pos 0)) ≡ true
unfolding is_within
new_inside d line a j l =
    rw (whole_at_lem (cells_of line) j l) (every_at (is_within d.least d.most) (cells_of line) j [] l a.ranges)

-- after the first line
first_inside : (line : List ℕ) → AsDue (history_due_at 0 0) line → (years j : ℕ) → j < length (cells_of line)
    → inside (range_at years j) (get_or (map whole_of (cells_of line)) j (pos 0)) ≡ true
unfolding range_at history_due_at
first_inside line a years zero l = new_inside (history_due_at 0 0) line a 0 l
first_inside line a years (suc j) l = absurd (omega (arith, a.count))

-- after any other: what stood there, and what is new
old_inside : (vs ws : List ℤ) (years j : ℕ) → j < length vs → inside (range_at years j) (get_or vs j (pos 0)) ≡ true
    → inside (range_at years j) (get_or (vs ++ ws) j (pos 0)) ≡ true
old_inside vs ws years j l h = rw (get_or-append vs ws (pos 0) j l) h

next_inside : (vs : List ℤ) (years i : ℕ) (line : List ℕ) → length vs ≡ start_in true years i → AsDue (history_due_at years i) line → (n : ℕ) → n < length (cells_of line)
    → inside (range_at years (length vs + n)) (get_or (vs ++ map whole_of (cells_of line)) (length vs + n) (pos 0)) ≡ true
next_inside vs years i line e a n l =
    let range : range_at years (length vs + n) ≡ range_of (history_due_at years i) = ap (λ (m : ℕ). range_at years (m + n)) e ∙ range_due years i n (omega (arith, a.count)) in
    rw (get_or-append-add vs (map whole_of (cells_of line)) n (pos 0), range) (new_inside (history_due_at years i) line a n l)

sound_more : (vs : List ℤ) (i : ℕ) (line : List ℕ) → Good true vs i (length vs) → AsDue (history_due_at (last_year_in vs) i) line → Sound vs
    → Sound (vs ++ map whole_of (cells_of line))
unfolding Sound
sound_more [] zero line g a s j l = first_inside line a _ j (omega (arith, length-map (cells_of line) whole_of))
sound_more [] (suc i) line g a s j l = absurd (started true i 0 g)
sound_more (v ∷ vs) i line g a s j l = go (dec_lt j (length (v ∷ vs)))
  where
    go : Dec (j < length (v ∷ vs)) → inside (range_at (nat_abs v) j) (get_or ((v ∷ vs) ++ map whole_of (cells_of line)) j (pos 0)) ≡ true
    go (yes h) = old_inside (v ∷ vs) (map whole_of (cells_of line)) (nat_abs v) j h (s j h)
    go (no h) =
        let n : ℕ = j - length (v ∷ vs) in
        let e : length (v ∷ vs) + n ≡ j = omega arith in
        let few : n < length (cells_of line) = omega (arith, length-append (v ∷ vs) (map whole_of (cells_of line)), length-map (cells_of line) whole_of) in
        rw e at (next_inside (v ∷ vs) (nat_abs v) i line g.start a n few)

-- a line of a text, by what is asked of it
abbrev line_read : ℕ → ℕ → List ℤ → List ℕ → Bool → Bool → Bool → Typed
line_read n i vs line a b c =
    let w = wrong_in (history_due_at (last_year_in vs) i) line in
    cond a (fine n i vs)
    (cond b (typed 6 n i 0 (label_of line) vs)
    (cond c (fine n (suc i) (vs ++ map whole_of (cells_of line))) (typed w.problem n i w.cell (word_in w line) vs)))

line_sound : (n i : ℕ) (vs : List ℤ) (line : List ℕ) → Good true vs i (length vs) → Sound vs → Sound (read_next true n i vs line).numbers
unfolding read_next read_line stands_for_indices
line_sound n i vs line g s =
    go (is_bare line) (eqb i (lines_in true (last_year_in vs))) (eqb (wrong_in (history_due_at (last_year_in vs) i) line).problem 0) refl
  where
    go : (a b c : Bool) → eqb (wrong_in (history_due_at (last_year_in vs) i) line).problem 0 ≡ c → Sound (line_read n i vs line a b c).numbers
    go true b c e = s
    go false true c e = s
    go false false true e = sound_more vs i line g (as_due (history_due_at (last_year_in vs) i) line (eqb-true _ 0 e)) s
    go false false false e = s

-- all of them
lines_sound : (t : Typed) (ls : List (List ℕ)) → Good true t.numbers t.place (length t.numbers) → Sound t.numbers
    → (read_lines true t ls).problem ≡ 0 → Sound (read_lines true t ls).numbers
unfolding read_lines
lines_sound t [] g s z = go (eqb t.place (lines_in true (last_year_in t.numbers)))
  where
    go : (b : Bool) → Sound (cond b t (typed 5 t.line t.place 0 [] t.numbers)).numbers
    go true = s
    go false = s
lines_sound t (l ∷ ls) g s z =
    let u = read_next true (suc t.line) t.place t.numbers (content_of l) in
    let step = next_step true (suc t.line) t.place t.numbers (content_of l) g in
    let sound = line_sound (suc t.line) t.place t.numbers (content_of l) g s in
    go u (eqb u.problem 0) refl (λ e. lines_sound u ls (step.good e) sound) z
  where
    go : (u : Typed) (b : Bool) → eqb u.problem 0 ≡ b → (u.problem ≡ 0 → (read_lines true u ls).problem ≡ 0 → Sound (read_lines true u ls).numbers)
        → (cond b (read_lines true u ls) u).problem ≡ 0 → Sound (cond b (read_lines true u ls) u).numbers
    go u true e f z = f (eqb-true u.problem 0 e) z
    go u false e f z = absurd (eqb-false u.problem 0 e z)

none_sound : Sound []
unfolding Sound
none_sound j l = absurd (omega arith)

pub history_sound : (text : List ℕ) → (read_history text).problem ≡ 0 → Sound (read_history text).numbers
unfolding read_text
history_sound text z = lines_sound (fine 0 0 []) (lines (unmarked text)) (good_none true) none_sound z
