-- A part of a list, entry by entry. Assumes nothing.
use mathlib.Core.Path.{◌≡◌, sym, ◌∙◌}
use mathlib.Core.List.{List}
use Prim.Native.Nat.{ℕ, ◌+◌, ◌≤◌}
use native.Mathlib.Omega.{arith}
use lib.ListN.{length, get_or, take, drop, length-drop}
use lib.Seq.{get_or-take, get_or-drop, length-take-le}
use Rattle.rules.specs.Lists.{up_to}
use Rattle.laws.proofs.Lists.{up_to_ext, up_to_self}

pub part_is : {A : Type 0} (l : List A) (m n : ℕ) (d : A) → m + n ≤ length l → take n (drop m l) ≡ up_to (λ i. get_or l (m + i) d) n
part_is l m n d h =
    let size : length (take n (drop m l)) ≡ n = length-take-le n (drop m l) (omega (arith, length-drop m l)) in
    sym (up_to_self (take n (drop m l)) n d size) ∙ up_to_ext _ _ n (λ i e. get_or-take n (drop m l) i d e ∙ get_or-drop m l i d)
