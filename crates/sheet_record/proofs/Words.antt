-- A line of a sheet read again: its label, and its numbers as cells. Assumes nothing.
use mathlib.Core.Path.{◌≡◌, refl, sym, ap, ◌∙◌}
use mathlib.Core.Bool.{Bool, true, false, not, cond, and-false}
use mathlib.Core.List.{List, [], ◌∷◌, ◌++◌, map, append-nil, append_assoc}
use Prim.Native.Nat.{ℕ, ◌+◌, ◌-◌, ◌<◌}
use native.Mathlib.Omega.{arith}
use borrow.Author.Tests.{not-true, eqb-false}
use lib.Dec.{eqb, leb}
use lib.IntN.{ℤ}
use lib.ListN.{length, get_or, drop}
use lib.Seq.{take-length, take_at, drop_at}
use Rattle.rules.specs.Lists.{every}
use Rattle.laws.proofs.Lists.{every_append, every_at, both_left, both_right}
use Rattle.composing.specs.Text.{ascii, integer}
use Rattle.scanning.specs.Parts.{among, fails, before, until, from, pieces, onto}
use Rattle.separating.specs.Separators.{separators}
use Rattle.commenting.specs.Comments.{uncommented}
use Rattle.cells.specs.Cells.{last_of, unreturned, content_of, is_bare, from_label, label_of, after_label, trimmed, unquoted, cell_from, filled, used, cells_by, decider, cells_text, cells_of}
use Rattle.cells.proofs.CellLines.{unspaced_here}
use Rattle.sheet.specs.Sheet.{spaced, lines}
use Rattle.sheet_record.proofs.NumbersBack.{plain, tame, every_of, integer_plain, integer_some}

-- what is known of a plain byte
pub record Plain (b : ℕ) : Type 0 where
  pub space : eqb b 32 ≡ false
  pub tab : eqb b 9 ≡ false
  pub comma : eqb b 44 ≡ false
  pub semicolon : eqb b 59 ≡ false
  pub quote : eqb b 34 ≡ false
  pub within : tame b ≡ true

plain_is : (b : ℕ) → plain b ≡ true → Plain b
plain_is b h =
    let e = both_right (not (eqb b 32)) _ h in
    let f = both_right (not (eqb b 9)) _ e in
    let g = both_right (not (eqb b 44)) _ f in
    let i = both_right (not (eqb b 59)) _ g in
    record {
      space = not-true (eqb b 32) (both_left (not (eqb b 32)) _ h);
      tab = not-true (eqb b 9) (both_left (not (eqb b 9)) _ e);
      comma = not-true (eqb b 44) (both_left (not (eqb b 44)) _ f);
      semicolon = not-true (eqb b 59) (both_left (not (eqb b 59)) _ g);
      quote = not-true (eqb b 34) (both_left (not (eqb b 34)) _ i);
      within = both_right (not (eqb b 34)) _ i;
    }

-- bytes that the test does not take, and then one that it takes, or none
module _ (p : ℕ → Bool) where
  pieces_end : (xs : List ℕ) (b : ℕ) (ys : List ℕ) → every (fails p) xs ≡ true → p b ≡ true → pieces p (xs ++ (b ∷ ys)) ≡ xs ∷ pieces p ys
  unfolding pieces onto every
  pieces_end [] b ys h e = rw e
  pieces_end (x ∷ xs) b ys h e =
      rw (not-true (p x) (both_left (not (p x)) (every (fails p) xs) h), pieces_end xs b ys (both_right (not (p x)) (every (fails p) xs) h) e)

  pieces_one : (xs : List ℕ) → every (fails p) xs ≡ true → pieces p xs ≡ xs ∷ []
  unfolding pieces onto every
  pieces_one [] h = refl
  pieces_one (x ∷ xs) h =
      rw (not-true (p x) (both_left (not (p x)) (every (fails p) xs) h), pieces_one xs (both_right (not (p x)) (every (fails p) xs) h))

  before_past : (xs rest : List ℕ) → every (fails p) xs ≡ true → before p (xs ++ rest) ≡ length xs + before p rest
  unfolding before every
  before_past [] rest h = omega arith
  before_past (x ∷ xs) rest h =
      rw (not-true (p x) (both_left (not (p x)) (every (fails p) xs) h)) (omega (arith, before_past xs rest (both_right (not (p x)) (every (fails p) xs) h)))

  -- the numbers of a line begin with a space, or there is none
  before_spaced : (vs : List ℤ) → p 32 ≡ true → before p (spaced vs) ≡ 0
  unfolding before spaced
  before_spaced [] e = refl
  before_spaced (v ∷ vs) e = rw e

  pub until_word : (w : List ℕ) (vs : List ℤ) → every (fails p) w ≡ true → p 32 ≡ true → until p (w ++ spaced vs) ≡ w
  unfolding until
  until_word w vs h e = take_at w (spaced vs) _ (sym (before_past w (spaced vs) h ∙ rw (before_spaced vs e) (omega arith)))

  pub from_word : (w : List ℕ) (vs : List ℤ) → every (fails p) w ≡ true → p 32 ≡ true → from p (w ++ spaced vs) ≡ spaced vs
  unfolding from
  from_word w vs h e = drop_at w (spaced vs) _ (sym (before_past w (spaced vs) h ∙ rw (before_spaced vs e) (omega arith)))

-- a word: at least one byte, and every byte plain
pub record Word (w : List ℕ) : Type 0 where
  pub first : ℕ
  pub rest : List ℕ
  pub is : w ≡ first ∷ rest
  pub bytes : every plain w ≡ true

number_word : (v : ℤ) → Word (integer v)
number_word v =
    let (b, (bs, e)) = integer_some v in
    record { first = b; rest = bs; is = e; bytes = integer_plain v }

first_plain : (w : List ℕ) (h : Word w) → Plain h.first
unfolding every
first_plain w h = plain_is h.first (both_left (plain h.first) (every plain h.rest) (rw h.is at h.bytes))

plain_tame : (b : ℕ) → plain b ≡ true → tame b ≡ true
plain_tame b h = (plain_is b h).within

-- a line of numbers after a word: it ends where it ends, and all of it is content
spaced_tame : (vs : List ℤ) → every tame (spaced vs) ≡ true
unfolding spaced every
spaced_tame [] = refl
spaced_tame (v ∷ vs) = rw (every_append tame (integer v) (spaced vs), every_of plain tame plain_tame (integer v) (integer_plain v), spaced_tame vs)

line_tame : (w : List ℕ) (vs : List ℤ) → Word w → every tame (w ++ spaced vs) ≡ true
line_tame w vs h = every_append tame w (spaced vs) ∙ rw (every_of plain tame plain_tame w h.bytes, spaced_tame vs)

pub line_ends : (w : List ℕ) (vs : List ℤ) (rest : List ℕ) → Word w → lines (w ++ (spaced vs ++ (10 ∷ rest))) ≡ (w ++ spaced vs) ∷ lines rest
unfolding among
line_ends w vs rest h =
    let text = w ++ spaced vs in
    let p = among (ascii "\n") in
    let closed : every (fails p) text ≡ true =
    every_of tame (fails p) (λ x e. rw (not-true (eqb x 10) (both_right (not (eqb x 13)) _ (both_right (not (eqb x 35)) _ e)))) text (line_tame w vs h) in
    rw (← append_assoc w (spaced vs) (10 ∷ rest)) (pieces_end p text 10 rest closed refl)

last_tame : (xs : List ℕ) → every tame xs ≡ true → eqb (last_of xs) 13 ≡ false
last_tame [] h = refl
last_tame (b ∷ bs) h =
    let x = last_of (b ∷ bs) in
    let e : tame x ≡ true = every_at tame (b ∷ bs) (length (b ∷ bs) - 1) 0 (omega arith) h in
    not-true (eqb x 13) (both_left (not (eqb x 13)) _ (both_right (not (eqb x 35)) _ e))

tame_uncommented : (p : ℕ) (xs : List ℕ) → every tame xs ≡ true → uncommented p xs ≡ length xs
unfolding uncommented every
tame_uncommented p [] h = refl
tame_uncommented p (b ∷ bs) h =
    rw (not-true (eqb b 35) (both_left (not (eqb b 35)) _ (both_left (tame b) (every tame bs) h)), tame_uncommented b bs (both_right (tame b) (every tame bs) h))

pub line_content : (w : List ℕ) (vs : List ℤ) → Word w → content_of (w ++ spaced vs) ≡ w ++ spaced vs
unfolding content_of unreturned from before among
line_content w vs h =
    let text = w ++ spaced vs in
    let f = first_plain w h in
    let begins : eqb (get_or (from (fails (among (ascii " \""))) text) 0 0) 35 ≡ false =
    rw (h.is, f.space, f.quote) (not-true (eqb h.first 35) (both_left (not (eqb h.first 35)) _ f.within)) in
    rw (last_tame text (line_tame w vs h), begins, tame_uncommented 0 text (line_tame w vs h)) (take-length text)

-- there is something in it, and its label is the word
module _ (w : List ℕ) (vs : List ℤ) (h : Word w) where
  abbrev text : List ℕ
  text = w ++ spaced vs

  pub line_filled : is_bare text ≡ false
  unfolding is_bare every among
  line_filled =
      let f = first_plain w h in
      rw (h.is, f.space, f.tab, f.comma, f.semicolon, f.quote)

  from_label_lem : from_label text ≡ text
  unfolding from_label from before among
  from_label_lem = rw (h.is, (first_plain w h).space)

  unquoted_label : eqb (get_or text 0 0) 34 ≡ false
  unquoted_label = rw h.is (first_plain w h).quote

  apart : every (fails (among (ascii " \t,;"))) w ≡ true
  unfolding among
  apart = every_of plain (fails (among (ascii " \t,;"))) (λ b e. let f = plain_is b e in rw (f.space, f.tab, f.comma, f.semicolon)) w h.bytes

  pub line_label : label_of text ≡ w
  unfolding label_of among
  line_label = rw (from_label_lem, unquoted_label) (until_word (among (ascii " \t,;")) w vs apart refl)

  after_label_lem : after_label text ≡ spaced vs
  unfolding after_label among
  after_label_lem = rw (from_label_lem, unquoted_label) (from_word (among (ascii " \t,;")) w vs apart refl)

-- a word is the cell that it is
last_plain : (w : List ℕ) → Word w → Plain (last_of w)
last_plain w h = plain_is (last_of w) (every_at plain w (length w - 1) 0 (omega (arith, ap length h.is)) h.bytes)

word_trimmed : (w : List ℕ) → Word w → trimmed w ≡ w
unfolding trimmed from before among
word_trimmed w h =
    let some : 0 < length w = omega (arith, ap length h.is) in
    let all = unspaced_here w (length w) some (eqb-false (last_of w) 32 (last_plain w h).space) in
    let front : before (fails (among (ascii " "))) w ≡ 0 = rw (h.is, (first_plain w h).space) in
    rw (front, all) (take-length w)

word_unquoted : (w : List ℕ) → Word w → unquoted w ≡ w
unfolding unquoted
word_unquoted w h =
    let quote : eqb (get_or w 0 0) 34 ≡ false = rw h.is (first_plain w h).quote in
    rw (quote, and-false (leb 2 (length w)))

word_cell : (w : List ℕ) → Word w → cell_from w ≡ w
unfolding cell_from
word_cell w h = ap unquoted (word_trimmed w h) ∙ word_unquoted w h

-- the pieces between blanks of a word and the numbers after it
blanks : ℕ → Bool
blanks = among (ascii " \t")

number_blankless : (v : ℤ) → every (fails blanks) (integer v) ≡ true
unfolding blanks among
number_blankless v = every_of plain (fails blanks) (λ b e. let f = plain_is b e in rw (f.space, f.tab)) (integer v) (integer_plain v)

spaced_pieces : (w : List ℕ) (vs : List ℤ) → every (fails blanks) w ≡ true → pieces blanks (w ++ spaced vs) ≡ w ∷ map integer vs
unfolding spaced blanks among
spaced_pieces w [] h = rw (append-nil w) (pieces_one blanks w h)
spaced_pieces w (v ∷ vs) h =
    pieces_end blanks w 32 (integer v ++ spaced vs) h refl ∙ ap (λ (l : List (List ℕ)). w ∷ l) (spaced_pieces (integer v) vs (number_blankless v))

-- none of them is empty, and each is a cell
numbers_cells : (vs : List ℤ) → map cell_from (used (filled (map integer vs))) ≡ map integer vs
unfolding filled used every among
numbers_cells [] = refl
numbers_cells (v ∷ vs) =
    let h = number_word v in
    let f = first_plain (integer v) h in
    let cell = word_cell (integer v) h in
    rw (h.is, f.space, f.quote, rw h.is at cell, numbers_cells vs)

pub line_cells : (w : List ℕ) (vs : List ℤ) → Word w → cells_of (w ++ spaced vs) ≡ map integer vs
unfolding cells_of decider cells_text cells_by separators spaced filled blanks among every
line_cells w vs h = rw (after_label_lem w vs h) (go vs)
  where
    go : (vs : List ℤ) → cells_by (get_or (spaced vs) 0 0) (cond (among (ascii ",;\t") (get_or (spaced vs) 0 0)) (drop 1 (spaced vs)) (spaced vs)) ≡ map integer vs
    go [] = rw (spaced_pieces [] [] refl) (numbers_cells [])
    go (v ∷ vs) = rw (spaced_pieces [] (v ∷ vs) refl) (numbers_cells (v ∷ vs))
