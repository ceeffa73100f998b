-- The text of some fields read again: its lines are the lines due, each as it was written, and give the fields back. Assumes nothing.
use mathlib.Core.Path.{◌≡◌, refl, sym, ap, ◌∙◌}
use mathlib.Core.Bool.{Bool, true, false, cond, ◌&&◌, and-false}
use mathlib.Core.List.{List, [], ◌∷◌, ◌++◌, map, append-nil, append_assoc}
use Prim.Native.Nat.{ℕ, zero, suc, ◌+◌, ◌≤◌, ◌<◌}
use native.Mathlib.Omega.{arith}
use borrow.Author.Tests.{eq-eqb}
use lib.Dec.{eqb, ltb}
use lib.IntN.{ℤ, pos, nat_abs}
use lib.ListN.{length, get_or, take, drop, replicate, length-append, length-map, get_or-append}
use lib.Seq.{take-add}
use lib.Signed.{le_z}
use Rattle.rules.specs.Lists.{up_to, every, total}
use Rattle.laws.proofs.Lists.{up_to_cons, up_to_ext}
use Rattle.composing.specs.Text.{ascii, integer}
use Rattle.scanning.specs.Numbers.{ceiling, is_number, whole_of}
use Rattle.scanning.specs.Parts.{from, until, before, pieces, same_text_of}
use Rattle.commenting.specs.Comments.{uncommented}
use Rattle.cells.specs.Cells.{unreturned, content_of, is_bare, from_label, label_of, is_within}
use Rattle.inflation_line.specs.InflationLine.{is_inflation}
use Rattle.sheet.specs.declared.Due.{Due}
use Rattle.sheet.specs.Table.{labels, label_due, line_count, indices_place, due_at, due_lines}
use Rattle.sheet.specs.Sheet.{spaced, line_of, lines_of, last_year_in, wrong, wrong_in, lines, fine, read_line, stands_for_indices, read_next, read_lines}
use Rattle.sheet_writing.proofs.LinesPut.{counts_of}
use Rattle.line_reading.proofs.LinesRead.{line_fine}
use Rattle.sheet_record.proofs.NumbersBack.{integer_number, integer_value}
use Rattle.sheet_record.proofs.Words.{Word, line_ends, line_content, line_filled, line_label, line_cells}

-- a label is a word
pub label_word : (row : ℕ) → row < 8 → Word (get_or labels row [])
unfolding labels every
label_word zero h = record { first = 107; rest = []; is = refl; bytes = refl }
label_word (suc zero) h = record { first = 101; rest = _; is = refl; bytes = refl }
label_word (suc (suc zero)) h = record { first = 112; rest = _; is = refl; bytes = refl }
label_word (suc (suc (suc zero))) h = record { first = 105; rest = _; is = refl; bytes = refl }
label_word (suc (suc (suc (suc zero)))) h = record { first = 114; rest = _; is = refl; bytes = refl }
label_word (suc (suc (suc (suc (suc zero))))) h = record { first = 119; rest = _; is = refl; bytes = refl }
label_word (suc (suc (suc (suc (suc (suc zero)))))) h = record { first = 117; rest = _; is = refl; bytes = refl }
label_word (suc (suc (suc (suc (suc (suc (suc zero))))))) h = record { first = 116; rest = _; is = refl; bytes = refl }
label_word (suc (suc (suc (suc (suc (suc (suc (suc row)))))))) h = absurd (omega arith)

-- and none is that of a line of inflation
other_label : (row : ℕ) → same_text_of (get_or labels row []) (ascii "inflation") ≡ false
unfolding labels same_text_of
other_label zero = refl
other_label (suc zero) = refl
other_label (suc (suc zero)) = refl
other_label (suc (suc (suc zero))) = refl
other_label (suc (suc (suc (suc zero)))) = refl
other_label (suc (suc (suc (suc (suc zero))))) = refl
other_label (suc (suc (suc (suc (suc (suc zero)))))) = refl
other_label (suc (suc (suc (suc (suc (suc (suc zero))))))) = refl
other_label (suc (suc (suc (suc (suc (suc (suc (suc zero)))))))) = refl
other_label (suc (suc (suc (suc (suc (suc (suc (suc (suc zero))))))))) = refl
other_label (suc (suc (suc (suc (suc (suc (suc (suc (suc (suc row)))))))))) = refl

-- so that a line as it was written is no line of inflation, and is read as due
pub no_inflation : (d : Due) (xs : List ℤ) → Word (label_due d) → is_inflation (label_due d ++ spaced xs) ≡ false
unfolding is_inflation
no_inflation d xs w = rw (line_label (label_due d) xs w) (other_label d.row)

read_plain : (n i : ℕ) (vs : List ℤ) (line : List ℕ) → is_inflation line ≡ false → read_next false n i vs line ≡ read_line false n i vs line
unfolding read_next stands_for_indices
read_plain n i vs line h = rw (h, and-false (eqb i (indices_place (last_year_in vs))))

pub row_small : (k place : ℕ) → (due_at k place).row < 8
unfolding due_at
row_small k place =
    one (eqb place 0) _ _ (omega arith)
    (one (eqb place 1) _ _ (omega arith)
    (one (ltb place (k + 3)) _ _ (omega arith)
    (one (eqb place (k + 3)) _ _ (omega arith)
    (one (eqb place (k + 4)) _ _ (omega arith)
    (one (eqb place (k + 5)) _ _ (omega arith) (one (eqb place (k + 6)) _ _ (omega arith) (omega arith)))))))
  where
    one : (b : Bool) (x y : Due) → x.row < 8 → y.row < 8 → (cond b x y).row < 8
    one true x y h l = h
    one false x y h l = l

-- a number that may stand in a line: below the ceiling, and in the line's range
pub record Okay (r : ℤ × ℤ) (v : ℤ) : Type 0 where
  pub small : nat_abs v < ceiling
  pub within : le_z r.0 v && le_z v r.1 ≡ true

abbrev pub AllOkay : ℤ × ℤ → List ℤ → Type 0
AllOkay r [] = Unit {0}
AllOkay r (v ∷ vs) = Okay r v × AllOkay r vs

numbers_all : (vs : List ℤ) → every is_number (map integer vs) ≡ true
unfolding every
numbers_all [] = refl
numbers_all (v ∷ vs) = rw (integer_number v, numbers_all vs)

within_all : (least most : ℤ) (vs : List ℤ) → AllOkay (least, most) vs → every (is_within least most) (map integer vs) ≡ true
unfolding every is_within
within_all least most [] o = refl
within_all least most (v ∷ vs) o = rw (integer_value v o.0.small, o.0.within, within_all least most vs o.1)

values_all : (r : ℤ × ℤ) (vs : List ℤ) → AllOkay r vs → map whole_of (map integer vs) ≡ vs
values_all r [] o = refl
values_all r (v ∷ vs) o = rw (integer_value v o.0.small, values_all r vs o.1)

-- a text is the same as itself
same_text : (xs : List ℕ) → same_text_of xs xs ≡ true
unfolding same_text_of
same_text [] = refl
same_text (x ∷ xs) = rw (eq-eqb x x refl, same_text xs)

-- nothing is wrong with a line as it was written
line_sound : (d : Due) (xs : List ℤ) → Word (label_due d) → length xs ≡ d.count → AllOkay (d.least, d.most) xs → wrong_in d (label_due d ++ spaced xs) ≡ wrong 0 0
unfolding wrong_in
line_sound d xs w e o =
    rw (
      line_label (label_due d) xs w,
      same_text (label_due d),
      line_cells (label_due d) xs w,
      numbers_all xs,
      eq-eqb (length (map integer xs)) d.count (length-map xs integer ∙ e),
      within_all d.least d.most xs o,
    )

-- a line as it was written is read as its numbers
pub written_read : (n i : ℕ) (us xs : List ℤ) → (i ≡ line_count (last_year_in us) → ⊥) → length xs ≡ (due_at (last_year_in us) i).count
    → AllOkay ((due_at (last_year_in us) i).least, (due_at (last_year_in us) i).most) xs
    → read_next false n i us (label_due (due_at (last_year_in us) i) ++ spaced xs) ≡ fine n (suc i) (us ++ xs)
written_read n i us xs left e o =
    let d = due_at (last_year_in us) i in
    let w = label_word d.row (row_small (last_year_in us) i) in
    let l = label_due d ++ spaced xs in
    rw (read_plain n i us l (no_inflation d xs w))
    (line_fine false n i us l (line_filled (label_due d) xs w) left (wrong 0 0) (sym (line_sound d xs w e o)) refl
    ∙ rw (line_cells (label_due d) xs w, values_all (d.least, d.most) xs o))

-- one line of a text
pub one_line : (m i : ℕ) (us : List ℤ) (xs : List ℤ) (rest : List ℕ) → (i ≡ line_count (last_year_in us) → ⊥) → length xs ≡ (due_at (last_year_in us) i).count
    → AllOkay ((due_at (last_year_in us) i).least, (due_at (last_year_in us) i).most) xs
    → read_lines false (fine m i us) (lines (line_of (due_at (last_year_in us) i) xs ++ rest)) ≡ read_lines false (fine (suc m) (suc i) (us ++ xs)) (lines rest)
unfolding line_of read_lines
one_line m i us xs rest left e o =
    let d = due_at (last_year_in us) i in
    let w = label_word d.row (row_small (last_year_in us) i) in
    let l = label_due d ++ spaced xs in
    let text : line_of d xs ++ rest ≡ label_due d ++ (spaced xs ++ (10 ∷ rest)) =
    append_assoc (label_due d) (spaced xs ++ (10 ∷ [])) rest ∙ ap (λ (l : List ℕ). label_due d ++ l) (append_assoc (spaced xs) (10 ∷ []) rest) in
    let read : read_next false (suc m) i us (content_of l) ≡ fine (suc m) (suc i) (us ++ xs) = rw (line_content (label_due d) xs w) (written_read (suc m) i us xs left e o) in
    ap (λ (l : List ℕ). read_lines false (fine m i us) (lines l)) text ∙ rw (line_ends (label_due d) xs rest w, read)

-- an empty line is no line of inflation
pub empty_line : is_inflation [] ≡ false
unfolding is_inflation label_of from_label from before until same_text_of
empty_line = refl

-- the end of a text, after its last line feed
end_line : (k m : ℕ) (us : List ℤ) → last_year_in us ≡ k → read_lines false (fine m (line_count k) us) (lines []) ≡ fine (suc m) (line_count k) us
unfolding read_lines read_line pieces content_of unreturned uncommented from before is_bare every
end_line k m us e = rw (read_plain (suc m) (line_count k) us [] empty_line, eq-eqb (line_count k) (line_count (last_year_in us)) (ap line_count (sym e)))

-- the lines due from place i on
abbrev pub Dues : ℕ → ℕ → List Due → Type 0
Dues k i [] = i ≡ line_count k
Dues k i (d ∷ ds) = (due_at k i ≡ d) × Dues k (suc i) ds

dues_count : (k i : ℕ) (ds : List Due) → Dues k i ds → i + length ds ≡ line_count k
dues_count k i [] h = omega arith
dues_count k i (d ∷ ds) h = omega (arith, dues_count k (suc i) ds h.1)

dues_from : (k n i : ℕ) → i + n ≡ line_count k → Dues k i (up_to (λ j. due_at k (i + j)) n)
unfolding up_to
dues_from k zero i e = omega arith
dues_from k (suc n) i e =
    let first : due_at k (i + 0) ≡ due_at k i = ap (due_at k) (omega arith) in
    let others : up_to (λ j. due_at k (i + suc j)) n ≡ up_to (λ j. due_at k (suc i + j)) n = up_to_ext _ _ n (λ j h. ap (due_at k) (omega arith)) in
    rw (up_to_cons (λ j. due_at k (i + j)) n, others) (sym first, dues_from k n (suc i) (omega arith))

-- the first line, and those after it
pub dues_first : (k : ℕ) → due_lines k ≡ due_at k 0 ∷ up_to (λ j. due_at k (1 + j)) (k + 7)
unfolding due_lines
dues_first k =
    let e : line_count k ≡ suc (k + 7) = omega arith in
    let others : up_to (λ j. due_at k (suc j)) (k + 7) ≡ up_to (λ j. due_at k (1 + j)) (k + 7) =
    up_to_ext _ _ (k + 7) (λ j h. let f : suc j ≡ 1 + j = omega arith in ap (due_at k) f) in
    rw (e, up_to_cons (due_at k) (k + 7), others)

pub dues_others : (k : ℕ) → Dues k 1 (up_to (λ j. due_at k (1 + j)) (k + 7))
dues_others k = dues_from k (k + 7) 1 (omega arith)

-- the range of each number, line by line
abbrev pub due_ranges : List Due → List (ℤ × ℤ)
due_ranges [] = []
due_ranges (d ∷ ds) = replicate d.count (d.least, d.most) ++ due_ranges ds

-- numbers that may stand where these ranges are
abbrev pub EachWithin : List (ℤ × ℤ) → List ℤ → Type 0
EachWithin [] vs = Unit {0}
EachWithin (r ∷ rs) [] = ⊥
EachWithin (r ∷ rs) (v ∷ vs) = Okay r v × EachWithin rs vs

-- those of the first line, and those of the others
pub record Split (n : ℕ) (r : ℤ × ℤ) (rs : List (ℤ × ℤ)) (vs : List ℤ) : Type 0 where
  pub size : length (take n vs) ≡ n
  pub first : AllOkay r (take n vs)
  pub others : EachWithin rs (drop n vs)

pub split : (n : ℕ) (r : ℤ × ℤ) (rs : List (ℤ × ℤ)) (vs : List ℤ) → EachWithin (replicate n r ++ rs) vs → Split n r rs vs
split zero r rs vs s = record { size = refl; first = tt; others = s }
split (suc n) r rs [] s = absurd s
split (suc n) r rs (v ∷ vs) s =
    let rest = split n r rs vs s.1 in
    record { size = ap suc rest.size; first = (s.0, rest.first); others = rest.others }

-- the lines as they were written give the numbers back
pub lines_sound : (k m i : ℕ) (us : List ℤ) (ds : List Due) (vs : List ℤ) → 1 ≤ length us → last_year_in us ≡ k → Dues k i ds → EachWithin (due_ranges ds) vs
    → read_lines false (fine m i us) (lines (lines_of ds vs)) ≡ fine (suc (m + length ds)) (line_count k) (us ++ take (counts_of ds) vs)
unfolding lines_of total
lines_sound k m i us [] vs some e h s =
    let f : m + 0 ≡ m = omega arith in
    rw (f, h, append-nil us) (end_line k m us e)
lines_sound k m i us (d ∷ ds) vs some e h s =
    let parts = split d.count (d.least, d.most) (due_ranges ds) vs s in
    let xs = take d.count vs in
    let f : suc m + length ds ≡ m + suc (length ds) = omega arith in
    let same : due_at (last_year_in us) i ≡ d = rw e h.0 in
    let left : i ≡ line_count (last_year_in us) → ⊥ = λ z. absurd (omega (arith, dues_count k (suc i) ds h.1, ap line_count e)) in
    let year : last_year_in (us ++ xs) ≡ k = ap nat_abs (get_or-append us xs (pos 0) 0 some) ∙ e in
    let line = one_line m i us xs (lines_of ds (drop d.count vs)) left (rw same parts.size) (rw same parts.first) in
    (rw same at line)
    ∙ lines_sound k (suc m) (suc i) (us ++ xs) ds (drop d.count vs) (omega (arith, length-append us xs)) year h.1 parts.others
    ∙ rw (f, take-add d.count (counts_of ds) vs, append_assoc us xs (take (counts_of ds) (drop d.count vs)))
