-- What is told of a text after reading it: its numbers, and what is wrong with it. Assumes nothing.
use mathlib.Core.Path.{◌≡◌, refl, sym, ap, ◌∙◌}
use mathlib.Core.Bool.{Bool}
use mathlib.Core.List.{List, ◌++◌}
use Prim.Native.Nat.{ℕ, ◌+◌, ◌≤◌}
use native.Mathlib.Decide.{dec_le}
use native.Mathlib.Omega.{arith}
use lib.IntN.{ℤ}
use lib.ListN.{length, take, drop, replicate, take-append-drop}
use lib.Seq.{sets, length-sets, take_all, length-take-le}
use Rattle.laws.proofs.Joined.{sets_append, take_sets}
use Rattle.composing.specs.Text.{Put}
use Rattle.composing.proofs.Puts.{put_back, put_length, put_past}
use Rattle.sheet.specs.declared.Found.{Found}
use Rattle.sheet.specs.Table.{due_in, most_first, room_in}
use Rattle.sheet.specs.Sheet.{Typed, last_year_in, read_text}
use Rattle.line_reading.specs.Reads.{Reads}
use Rattle.line_reading.proofs.Known.{text_known}
use Rattle.sheet_wording.specs.Problem.{problem_line, problem_text}
use Rattle.history_wording.specs.Refused.{problem_front, wrong_text}

-- of a text put into a buffer, what fits is there
put_cut : {a b : List ℕ} {j : ℕ} {xs : List ℕ} → Put a b 0 j xs → take j b ≡ take (length a) xs
put_cut {a} {b} {j} {xs} p = go (dec_le (length xs) (length a))
  where
    go : Dec (length xs ≤ length a) → take j b ≡ take (length a) xs
    go (yes h) = put_back p h ∙ sym (take_all (length a) xs h)
    go (no h) =
        let m = length a in
        let front = take m xs in
        let size : length front ≡ m = length-take-le m xs (omega arith) in
        let long : m ≡ 0 + length front = omega arith in
        let past : sets a 0 front ≡ sets a 0 xs =
        (put_past (sets a 0 front) m (drop m xs) (omega (arith, length-sets a 0 front))).stored
        ∙ sets_append front (drop m xs) a 0 m long
        ∙ ap (sets a 0) (take-append-drop m xs) in
        let e : j ≡ m = omega (arith, p.ended) in
        rw (e, p.stored, ← past) (take_sets a front m size (omega arith))

module _ (history : Bool) (text : List ℕ) (f : Found) (list₀ list : List ℤ) (word : List ℕ) (room : length list₀ ≡ room_in history)
    (h : Reads (read_text history text) f list₀ list (replicate 20 0) word) where
  abbrev t : Typed
  t = read_text history text

  count : f.count ≡ length t.numbers
  count = ap (λ (x : Found). x.count) h.said

  pub told_problem : f.problem ≡ t.problem
  told_problem = ap (λ (x : Found). x.problem) h.said

  -- the numbers stand in the front of the list, and the word in the front of its bytes
  pub told_numbers : take f.count list ≡ t.numbers
  told_numbers = rw h.stored (take_sets list₀ t.numbers f.count (sym count) (omega (arith, count, (text_known history text).most, room)))

  pub told_long : length list ≡ room_in history
  told_long = ap length h.stored ∙ length-sets list₀ 0 t.numbers ∙ room

  pub told_word : length word ≡ 20
  told_word = put_length h.put

  -- what the words for a problem ask
  pub told_asked : (f.count ≤ length list) × ((last_year_in (take f.count list) ≤ most_first history) × (f.word ≤ length word))
  told_asked = (omega (arith, count, (text_known history text).most, told_long), (rw told_numbers (text_known history text).few, omega (arith, told_word, h.put.ended)))

  -- what they say
  pub told_wrong : problem_front history f.problem f.place
      ++ problem_line f.problem f.line (due_in history (last_year_in (take f.count list)) f.place) f.cell (take f.word word)
      ≡ wrong_text history t
  unfolding wrong_text problem_text
  told_wrong =
      let place = ap (λ (x : Found). x.place) h.said in
      let line = ap (λ (x : Found). x.line) h.said in
      let cell = ap (λ (x : Found). x.cell) h.said in
      rw (told_numbers, told_problem, place, line, cell, put_cut h.put) refl
