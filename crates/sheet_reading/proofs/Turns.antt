-- The turns of the loop over the lines of a text. Assumes nothing.
use mathlib.Core.Path.{◌≡◌, refl, sym, ap, ◌∙◌}
use mathlib.Core.Bool.{Bool, true, false, cond}
use mathlib.Core.List.{List, [], ◌∷◌}
use Prim.Native.Nat.{ℕ, ◌+◌, ◌≤◌}
use native.Mathlib.Numerals.{add-one}
use native.Mathlib.Omega.{arith}
use borrow.Author.Tests.{eq-eqb, ne_eqb}
use lib.Dec.{eqb}
use lib.IntN.{ℤ}
use lib.ListN.{length, take, drop, length-drop}
use lib.Seq.{sets, length-sets}
use Rattle.laws.proofs.Joined.{sets_append, take_sets}
use Rattle.cells.specs.Cells.{content_of}
use Rattle.kinds.specs.Kinds.{marked}
use Rattle.sheet.specs.declared.Found.{Found}
use Rattle.sheet.specs.Table.{lines_in, room_in}
use Rattle.sheet.specs.Sheet.{Typed, typed, fine, last_year_in, unmarked, lines, read_next, read_lines, read_text}
use Rattle.line_reading.specs.Reads.{found, Reads, Good}
use Rattle.line_reading.proofs.LinesRead.{sets_same}
use Rattle.line_reading.proofs.Known.{Step, next_step, good_none, good_most}

-- before the lines ls, nothing wrong so far
pub record State (history : Bool) (text : List ℕ) (list₀ : List ℤ) (word₀ : List ℕ) (ls : List (List ℕ)) (list : List ℤ) (word : List ℕ) (f : Found) : Type 0 where
  pub read : read_lines history (fine f.line f.place (take f.count list)) ls ≡ read_text history text
  pub good : Good history (take f.count list) f.place f.count
  pub stored : list ≡ sets list₀ 0 (take f.count list)
  pub kept : word ≡ word₀

pub state_start : (history : Bool) (text : List ℕ) (list : List ℤ) (word : List ℕ) → State history text list word (lines (unmarked text)) list word (found 0 0 0 0 0 0)
unfolding read_text
state_start history text list word = record { read = refl; good = good_none history; stored = refl; kept = refl }

-- the list keeps its length
pub state_long : {history : Bool} {text : List ℕ} {list₀ : List ℤ} {word₀ : List ℕ} {ls : List (List ℕ)} {list : List ℤ} {word : List ℕ} {f : Found}
    → State history text list₀ word₀ ls list word f → length list ≡ length list₀
state_long {list₀ = list₀} {list = list} {f = f} s = ap length s.stored ∙ length-sets list₀ 0 (take f.count list)

pub reads_long : {t : Typed} {r : Found} {list₀ list : List ℤ} {word₀ word : List ℕ} → Reads t r list₀ list word₀ word → length list ≡ length list₀
reads_long {t} {list₀ = list₀} h = ap length h.stored ∙ length-sets list₀ 0 t.numbers

module _ (history : Bool) (text : List ℕ) (list₀ : List ℤ) (word₀ : List ℕ) (l : List ℕ) (ls : List (List ℕ)) (list list' : List ℤ) (word word' : List ℕ) (f r : Found)
    (s : State history text list₀ word₀ (l ∷ ls) list word f)
    (h : Reads (read_next history (f.line + 1) f.place (take f.count list) (content_of l)) r list list' word word') where
  abbrev t : Typed
  t = read_next history (f.line + 1) f.place (take f.count list) (content_of l)

  step : Step history (f.line + 1) (take f.count list) t
  step =
      let g = s.good in
      next_step history (f.line + 1) f.place (take f.count list) (content_of l)
      (record { size = refl; start = g.size ∙ g.start; within = g.within; few = g.few; some = g.some })

  -- what the lines come to
  turn : read_text history text ≡ cond (eqb t.problem 0) (read_lines history t ls) t
  unfolding read_lines
  turn = sym s.read ∙ rw (← add-one f.line)

  problem : r.problem ≡ t.problem
  problem = ap (λ (x : Found). x.problem) h.said

  -- the numbers stand in the front of the list that was lent
  stored : list' ≡ sets list₀ 0 t.numbers
  stored =
      let vs = take f.count list in
      let ws = step.new in
      let n : length vs ≡ 0 + length vs = omega arith in
      let same = sets_same list f.count s.good.size in
      h.stored
      ∙ rw step.added
      (sym (sets_append vs ws list 0 (length vs) n) ∙ ap (λ (l : List ℤ). sets l (length vs) ws) (same ∙ s.stored) ∙ sets_append vs ws list₀ 0 (length vs) n)

  -- something is wrong with the line
  pub state_wrong : (r.problem ≡ 0 → ⊥) → Reads (read_text history text) r list₀ list' word₀ word'
  state_wrong some =
      rw (turn, ne_eqb t.problem 0 (λ e. some (problem ∙ e)))
      (record { said = h.said; stored = stored; put = rw (← s.kept) h.put })

  module _ (fine-line : r.problem ≡ 0) (long : length list ≡ room_in history) where
    none : t.problem ≡ 0
    none = sym problem ∙ fine-line

    numbers : take r.count list' ≡ t.numbers
    numbers =
        let n : length t.numbers ≡ r.count = sym (ap (λ (x : Found). x.count) h.said) in
        rw h.stored (take_sets list t.numbers r.count n (omega (arith, good_most history t.numbers t.place (length t.numbers) (step.good none))))

    place : r.place ≡ t.place
    place = ap (λ (x : Found). x.place) h.said

    line : r.line ≡ t.line
    line = ap (λ (x : Found). x.line) h.said

    -- nothing is wrong
    pub state_next : State history text list₀ word₀ ls list' word' r
    state_next =
        let g = step.good none in
        let e = step.plain none in
        let n : r.count ≡ length t.numbers = ap (λ (x : Found). x.count) h.said in
        let w : word' ≡ word = h.put.stored ∙ ap (λ (x : Typed). sets word 0 x.word) e in
        record {
          read = rw (numbers, place, line, ← e) (sym (turn ∙ rw (eq-eqb t.problem 0 none)));
          good = rw (numbers, place, n) g;
          stored = rw numbers stored;
          kept = w ∙ s.kept;
        }

    pub next_line : r.line ≡ f.line + 1
    next_line = line ∙ step.line

-- the text ends
end_numbers : (history : Bool) (t : Typed) → (read_lines history t []).numbers ≡ t.numbers
unfolding read_lines
end_numbers history t = go (eqb t.place (lines_in history (last_year_in t.numbers)))
  where
    go : (b : Bool) → (cond b t (typed 5 t.line t.place 0 [] t.numbers)).numbers ≡ t.numbers
    go true = refl
    go false = refl

pub state_end : (history : Bool) (text : List ℕ) (list₀ : List ℤ) (word₀ : List ℕ) (list : List ℤ) (word : List ℕ) (f r : Found) → State history text list₀ word₀ [] list word f
    → Reads (read_lines history (fine f.line f.place (take f.count list)) []) r list list word₀ word₀ → Reads (read_text history text) r list₀ list word₀ word
state_end history text list₀ word₀ list word f r s h =
    rw (← s.read)
    (record {
      said = h.said;
      stored = s.stored ∙ ap (sets list₀ 0) (sym (end_numbers history (fine f.line f.place (take f.count list))));
      put = rw s.kept h.put;
    })

-- the mark counts for its own length only
pub unmarked_most : (xs : List ℕ) → length (unmarked xs) ≤ length xs
unfolding unmarked
unmarked_most xs = go (marked xs)
  where
    go : (b : Bool) → length (cond b (drop 3 xs) xs) ≤ length xs
    go true = omega (arith, length-drop 3 xs)
    go false = omega arith
