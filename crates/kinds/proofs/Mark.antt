-- An input with the mark. Assumes nothing.
use mathlib.Core.Path.{◌≡◌}
use mathlib.Core.Bool.{true}
use mathlib.Core.List.{List}
use Prim.Native.Nat.{ℕ, ◌-◌, ◌≤◌}
use native.Mathlib.Omega.{arith}
use borrow.Author.Tests.{leb-true, lt-ltb}
use lib.Dec.{leb}
use lib.ListN.{length, drop, take, length-drop}
use lib.Seq.{take_all}
use Rattle.rules.specs.Lists.{every}
use Rattle.laws.proofs.Lists.{both_left}
use Rattle.kinds.specs.Kinds.{text_byte, marked, is_text}

-- it has room for the mark
pub mark_room : (s : List ℕ) → marked s ≡ true → 3 ≤ length s
unfolding marked
mark_room s h = leb-true 3 (length s) (both_left (leb 3 (length s)) _ h)

-- and is a text where what stands after the mark is plain
pub marked_is : (s : List ℕ) → marked s ≡ true → is_text s ≡ every text_byte (take (length s - 3) (drop 3 s))
unfolding is_text
marked_is s h =
    let room = mark_room s h in
    rw (h, lt-ltb 0 (length s) (omega arith), take_all (length s - 3) (drop 3 s) (omega (arith, length-drop 3 s)))
