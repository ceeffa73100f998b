-- How long the section of the key figures is at most. Assumes nothing.
use mathlib.Core.Bool.{Bool, true}
use mathlib.Core.List.{List}
use Prim.Native.Nat.{ℕ, ◌≤◌, ◌<◌}
use native.Mathlib.Omega.{arith}
use lib.IntN.{ℤ}
use lib.ListN.{length, length-append}
use Rattle.composing.specs.Text.{ascii}
use Rattle.lines.proofs.Longest.{longest_from}
use Rattle.page_figures.specs.Given.{Figured}
use Rattle.parts.proofs.Lengths.{only_most, section_start_most, section_end_most, beside_start_most, beside_end_most}
use Rattle.table_lengths.proofs.Most.{table_most}
use Rattle.key_table.specs.Key.{key_table}
use Rattle.key_section.specs.KeySection.{key_text, key_section}
use Rattle.section_lengths.proofs.Tables.{picked_most}
use Rattle.section_lengths.proofs.Provisions.{provision_plot_most}

table_most_lem : (html : Bool) (singles : List ℤ) → length (key_table html singles) ≤ 4200
unfolding key_table table_most longest_from
table_most_lem html singles = picked_most html true _ _ _ singles _ _ 8 4200 (omega arith) (omega arith)

pub key_most : (html : Bool) (first k : ℕ) (xs singles : List ℤ) → k < 16 → first ≤ 65535 → Figured k xs → length (key_section html first k xs singles) ≤ 12000
unfolding key_section key_text
key_most html first k xs singles h l figured =
    simp length-append
    (omega
    (arith, section_start_most html (ascii "Key figures"), beside_start_most html, table_most_lem html singles, provision_plot_most html first k xs h l figured, beside_end_most html, only_most html key_text, section_end_most html))
