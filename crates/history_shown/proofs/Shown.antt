-- Positions are rows of equal length (rows_length), so an entry stands where it is read (joined_at). Assumes nothing.
use mathlib.Core.Path.{◌≡◌, sym, ap, ◌∙◌}
use mathlib.Core.List.{List}
use Prim.Native.Nat.{ℕ, ◌+◌, ◌*◌, ◌≤◌}
use native.Mathlib.Nat.{mul-le-mul_right}
use native.Mathlib.Omega.{arith}
use lib.IntN.{ℤ, pos}
use lib.ListN.{length, get_or}
use lib.Seq.{get_or-take}
use Rattle.rules.specs.Lists.{up_to, joined}
use Rattle.rules.specs.History.{position_of, position_count, history_count, history_list}
use Rattle.laws.proofs.Joined.{joined_at}
use Rattle.history_questions.specs.Asked.{Widths}
use Rattle.history.proofs.Windows.{rows_length, position_length}
use Rattle.history_places.specs.Places.{position_entry}
use Rattle.history_shown.specs.Shown.{EntriesShown}

pub entries_shown : (years width first : ℕ) (n : List ℕ) (p list : List ℤ) → EntriesShown years width first n p list
unfolding position_entry history_list history_count
entries_shown years width first n p list w e a i h l =
    let m = 1 + 2 * width in
    let f = position_of years width n p in
    let known : Widths years width = record { few = w.years_most; wide = w.width_least; narrow = w.width_most_lem; within = w.width_fits } in
    let size = position_length years width n p known in
    let start = rows_length f m size a in
    let inside : (a + 1) * m ≤ position_count years width * m = mul-le-mul_right m (omega arith) in
    let at : length (joined (up_to f a)) + i ≡ a * m + i = ap (λ (z : ℕ). z + i) start in
    sym (get_or-take (position_count years width * m) list (a * m + i) (pos 0) (omega (arith, inside)))
    ∙ ap (λ (xs : List ℤ). get_or xs (a * m + i) (pos 0)) e
    ∙ ap (λ (z : ℕ). get_or (joined (up_to f (position_count years width))) z (pos 0)) (sym at)
    ∙ joined_at f (position_count years width) a i (pos 0) h (omega (arith, size a))
