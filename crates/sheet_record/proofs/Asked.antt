-- A text as it was written has no line of inflation, so that nothing is wrong with one. Assumes nothing.
use mathlib.Core.Path.{◌≡◌, refl, sym, ap, ◌∙◌}
use mathlib.Core.Bool.{Bool, true, false, not, cond, true≢false}
use mathlib.Core.List.{List, [], ◌∷◌, ◌++◌, append_assoc}
use Prim.Native.Nat.{ℕ, suc, ◌+◌}
use lib.Dec.{eqb}
use lib.IntN.{ℤ}
use lib.ListN.{get_or, take, drop}
use Rattle.rules.specs.Lists.{up_to, every}
use Rattle.laws.proofs.Lists.{both_left, both_right}
use Rattle.scanning.specs.Parts.{from, before, pieces}
use Rattle.commenting.specs.Comments.{uncommented}
use Rattle.cells.specs.Cells.{unreturned, content_of}
use Rattle.inflation_line.specs.InflationLine.{is_inflation, fault, fault_in}
use Rattle.sheet.specs.declared.Due.{Due}
use Rattle.sheet.specs.Table.{label_due, due_at}
use Rattle.sheet.specs.Sheet.{spaced, line_of, lines_of, last_year_in, sheet_of, lines, is_wanted, lines_before, line_wanted, year_asked, inflation_line, fault_asked}
use Rattle.sheet_record.proofs.Words.{line_ends, line_content}
use Rattle.sheet_record.proofs.Sheets.{label_word, row_small, no_inflation, empty_line, Dues, dues_first, dues_others}

-- not a line of inflation
abbrev other : List ℕ → Bool
other l = not (is_wanted true l)

-- where there is no such line, the line that is found is empty
none_wanted : (p : List ℕ → Bool) (ls : List (List ℕ)) → every (λ l. not (p l)) ls ≡ true → get_or ls (before p ls) [] ≡ []
unfolding every before
none_wanted p [] h = refl
none_wanted p (l ∷ ls) h = go (p l) (both_left (not (p l)) (every (λ x. not (p x)) ls) h) (none_wanted p ls (both_right (not (p l)) (every (λ x. not (p x)) ls) h))
  where
    go : (b : Bool) → not b ≡ true → get_or ls (before p ls) [] ≡ [] → get_or (l ∷ ls) (cond b 0 (suc (before p ls))) [] ≡ []
    go true e f = absurd (true≢false (sym e))
    go false e f = f

empty_content : content_of [] ≡ []
unfolding content_of unreturned uncommented from before
empty_content = refl

pub none_asked : (ls : List (List ℕ)) → every other ls ≡ true → (fault_asked ls).kind ≡ 0
unfolding fault_asked line_wanted lines_before
none_asked ls h =
    let line : inflation_line ls ≡ [] = ap content_of (none_wanted (is_wanted true) ls h) ∙ empty_content in
    go (eqb (year_asked ls) 0) (is_inflation (inflation_line ls)) (ap is_inflation line ∙ empty_line)
  where
    go : (a b : Bool) → b ≡ false → (cond a (fault 0 0) (cond b (fault_in (year_asked ls + 1) (inflation_line ls)) (fault 0 0))).kind ≡ 0
    go true b e = refl
    go false true e = absurd (true≢false e)
    go false false e = refl

-- the lines as they were written
written_line : (k i : ℕ) (xs : List ℤ) (rest : List ℕ) → every other (lines rest) ≡ true → every other (lines (line_of (due_at k i) xs ++ rest)) ≡ true
unfolding line_of every is_wanted
written_line k i xs rest h =
    let d = due_at k i in
    let w = label_word d.row (row_small k i) in
    let text : line_of d xs ++ rest ≡ label_due d ++ (spaced xs ++ (10 ∷ rest)) =
    append_assoc (label_due d) (spaced xs ++ (10 ∷ [])) rest ∙ ap (λ (l : List ℕ). label_due d ++ l) (append_assoc (spaced xs) (10 ∷ []) rest) in
    rw (text, line_ends (label_due d) xs rest w, line_content (label_due d) xs w, no_inflation d xs w) h

written_lines : (k i : ℕ) (ds : List Due) (vs : List ℤ) → Dues k i ds → every other (lines (lines_of ds vs)) ≡ true
unfolding lines_of every is_wanted pieces
written_lines k i [] vs h = rw (empty_content, empty_line)
written_lines k i (d ∷ ds) vs h =
    rw (← h.0) (written_line k i (take (due_at k i).count vs) (lines_of ds (drop (due_at k i).count vs)) (written_lines k (suc i) ds (drop (due_at k i).count vs) h.1))

-- so of the text of some fields
pub sheet_asked : (vs : List ℤ) → (fault_asked (lines (sheet_of vs))).kind ≡ 0
unfolding sheet_of
sheet_asked vs =
    let k = last_year_in vs in
    none_asked (lines (sheet_of vs)) (rw (dues_first k) (written_lines k 0 (due_at k 0 ∷ up_to (λ j. due_at k (1 + j)) (k + 7)) vs (refl, dues_others k)))
