-- How long the section of the record is at most. Assumes nothing.
use mathlib.Core.Bool.{Bool, true, false}
use mathlib.Core.List.{List}
use Prim.Native.Nat.{ℕ, ◌+◌, ◌*◌, ◌≤◌}
use native.Mathlib.Omega.{arith}
use lib.ListN.{length, length-append}
use Rattle.composing.specs.Text.{ascii}
use Rattle.composing.proofs.Decimals.{length_most}
use Rattle.parts.proofs.Lengths.{only_most, section_start_most, section_end_most}
use Rattle.hexadecimal.proofs.Digits.{digits_most}
use Rattle.record_section.specs.RecordSection.{digits_text, record_section}

text_most : (bytes : ℕ) → length (digits_text bytes) ≤ 210
unfolding digits_text
text_most bytes = simp length-append (omega (arith, length_most bytes))

pub record-most : (html : Bool) (packed : List ℕ) → length (record_section html packed) ≤ 330 + 3 * length packed
unfolding record_section
record-most true packed =
    simp length-append
    (omega
    (arith, section_start_most true (ascii "The record"), text_most (length packed), digits_most true packed, only_most true (ascii "</code></p>\n"), section_end_most true))
record-most false packed =
    simp length-append
    (omega (arith, section_start_most false (ascii "The record"), digits_most false packed, only_most false (ascii "</code></p>\n"), section_end_most false))
