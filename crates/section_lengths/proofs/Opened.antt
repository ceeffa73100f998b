-- How long a section is at most that opens with a paragraph on the page of HTML. Assumes nothing.
use mathlib.Core.Bool.{Bool}
use mathlib.Core.List.{List, ◌++◌}
use Prim.Native.Nat.{ℕ, ◌+◌, ◌≤◌}
use native.Mathlib.Omega.{arith}
use lib.ListN.{length, length-append}
use Rattle.parts.specs.Parts.{only, section_head}
use Rattle.parts.proofs.Lengths.{only_most, section_start_most}

-- of a title, a paragraph and a rest of at most m, the most is n
pub opened_most : (html : Bool) (title paragraph rest : List ℕ) (m n : ℕ) → length rest ≤ m → length title + length paragraph + 20 + m ≤ n
    → length (section_head html title ++ (only html paragraph ++ rest)) ≤ n
opened_most html title paragraph rest m n h l =
    simp length-append (omega (arith, section_start_most html title, only_most html paragraph))
