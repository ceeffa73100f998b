-- What a line comes to, and what is stored of it. Assumes nothing.
use mathlib.Core.Path.{◌≡◌, sym, ap, ◌∙◌}
use mathlib.Core.Bool.{Bool, true, false}
use mathlib.Core.List.{List, [], ◌++◌, map}
use Prim.Native.Nat.{ℕ, suc, ◌+◌}
use native.Mathlib.Numerals.{add-one}
use native.Mathlib.Omega.{arith}
use borrow.Author.Tests.{eq-eqb, ne_eqb}
use lib.IntN.{ℤ, pos, nat_abs}
use lib.ListN.{length, get_or, take, drop, length-append, length-map, length-take, take-append-drop}
use lib.Seq.{sets, sets-eq, get_or-take}
use Rattle.rules.specs.Lists.{up_to}
use Rattle.laws.proofs.Joined.{sets_append}
use Rattle.laws.proofs.Lists.{map_up_to, up_to_self}
use Rattle.composing.specs.Text.{Put}
use Rattle.composing.proofs.Puts.{put_none}
use Rattle.scanning.specs.Numbers.{whole_of}
use Rattle.cells.specs.Cells.{is_bare, label_of, cells_of}
use Rattle.sheet.specs.declared.Wrong.{Wrong}
use Rattle.sheet.specs.Table.{lines_in, due_in}
use Rattle.sheet.specs.Sheet.{last_year_in, wrong_in, word_in, Typed, typed, fine, read_line}
use Rattle.line_reading.specs.Reads.{found, Reads}

-- a list whose front is stored again
pub sets_same : (l : List ℤ) (n : ℕ) → length (take n l) ≡ n → sets l 0 (take n l) ≡ l
sets_same l n e =
    let f : 0 + length (take n l) ≡ n = omega arith in
    sets-eq (take n l) l 0 (omega (arith, length-take n l)) ∙ ap (λ (m : ℕ). take n l ++ drop m l) f ∙ take-append-drop n l

-- k of the numbers so far
pub year_first : (l : List ℤ) (n : ℕ) → (n ≡ 0 → ⊥) → nat_abs (get_or l 0 (pos 0)) ≡ last_year_in (take n l)
year_first l n h = ap nat_abs (sym (get_or-take n l 0 (pos 0) (omega arith)))

-- all the numbers of a line
pub all_numbers : (cs : List (List ℕ)) (n : ℕ) → length cs ≡ n → up_to (λ i. whole_of (get_or cs i [])) n ≡ map whole_of cs
all_numbers cs n e = sym (map_up_to whole_of (λ i. get_or cs i []) n) ∙ ap (map whole_of) (up_to_self cs n [] e)

-- a line: nothing in it, no line due any more, not as due, as due
module _ (history : Bool) (n i : ℕ) (vs : List ℤ) (line : List ℕ) where
  pub line_bare : is_bare line ≡ true → read_line history n i vs line ≡ fine n i vs
  unfolding read_line
  line_bare h = rw h

  pub line_over : is_bare line ≡ false → i ≡ lines_in history (last_year_in vs) → read_line history n i vs line ≡ typed 6 n i 0 (label_of line) vs
  unfolding read_line
  line_over h e = rw (h, eq-eqb i (lines_in history (last_year_in vs)) e)

  module _ (filled : is_bare line ≡ false) (due : i ≡ lines_in history (last_year_in vs) → ⊥) where
    pub line_wrong : (w : Wrong) → w ≡ wrong_in (due_in history (last_year_in vs) i) line → (w.problem ≡ 0 → ⊥)
        → read_line history n i vs line ≡ typed w.problem n i w.cell (word_in w line) vs
    unfolding read_line
    line_wrong w e h = rw (filled, ne_eqb i (lines_in history (last_year_in vs)) due, ← e, ne_eqb w.problem 0 h)

    pub line_fine : (w : Wrong) → w ≡ wrong_in (due_in history (last_year_in vs) i) line → w.problem ≡ 0
        → read_line history n i vs line ≡ fine n (suc i) (vs ++ map whole_of (cells_of line))
    unfolding read_line
    line_fine w e h = rw (filled, ne_eqb i (lines_in history (last_year_in vs)) due, ← e, eq-eqb w.problem 0 h)

-- nothing is stored, and a word or none is put
pub reads_kept : {t : Typed} {w : ℕ} {word₀ word : List ℕ} (list : List ℤ) (p n i c m : ℕ) (xs : List ℕ) → t ≡ typed p n i c xs (take m list) → length (take m list) ≡ m
    → Put word₀ word 0 w xs → Reads t (found p n i c w m) list list word₀ word
reads_kept {t} {w} list p n i c m xs e size q =
    rw e (record { said = ap (found p n i c w) (sym size); stored = sym (sets_same list m size); put = q })

-- numbers are added, and stored
pub reads_added : {t : Typed} {word : List ℕ} (list list' : List ℤ) (n i m c : ℕ) (xs : List ℤ) → t ≡ fine n (suc i) (take m list ++ xs)
    → length (take m list) ≡ m → length xs ≡ c → list' ≡ sets list m xs → Reads t (found 0 n (i + 1) 0 0 (m + c)) list list' word word
reads_added {t} {word} list list' n i m c xs e size count stored =
    let all : length (take m list ++ xs) ≡ m + c = omega (arith, length-append (take m list) xs) in
    rw e
    (record {
      said = rw (add-one i, all);
      stored = stored ∙ ap (λ (l : List ℤ). sets l m xs) (sym (sets_same list m size)) ∙ sets_append (take m list) xs list 0 m (omega arith);
      put = put_none word 0;
    })

-- those of a line's cells
pub reads_fine : {t : Typed} {word : List ℕ} (list list' : List ℤ) (n i m c : ℕ) (cs : List (List ℕ)) → t ≡ fine n (suc i) (take m list ++ map whole_of cs)
    → length (take m list) ≡ m → length cs ≡ c → list' ≡ sets list m (up_to (λ j. whole_of (get_or cs j [])) c) → Reads t (found 0 n (i + 1) 0 0 (m + c)) list list' word word
reads_fine list list' n i m c cs e size count stored =
    reads_added list list' n i m c (map whole_of cs) e size (length-map cs whole_of ∙ count) (stored ∙ ap (sets list m) (all_numbers cs c count))
