-- How long the provisions by origin year are at most, the section and the plot. Assumes nothing.
use mathlib.Core.Path.{refl}
use mathlib.Core.Bool.{Bool}
use mathlib.Core.List.{List}
use Prim.Native.Nat.{ℕ, ◌≤◌, ◌<◌}
use native.Mathlib.Omega.{arith}
use lib.IntN.{ℤ}
use lib.ListN.{length, length-append}
use Rattle.lines.proofs.Longest.{longest_from}
use Rattle.listing.specs.Starts.{starts_of}
use Rattle.figure_places.specs.Places.{added_at}
use Rattle.page_figures.specs.Given.{Figured}
use Rattle.page_figures.proofs.Numbers.{numbers}
use Rattle.parts.proofs.Lengths.{section_end_most}
use Rattle.table_lengths.proofs.Most.{table_most}
use Rattle.provision_section.specs.Provisions.{provision_words, provision_table, provision_paragraph, provisions_section, provision_plot_words, provision_plot}
use Rattle.section_lengths.proofs.Tables.{column_most}
use Rattle.section_lengths.proofs.Opened.{opened_most}
use Rattle.section_lengths.proofs.Plots.{pair_most}

table_most_lem : (html : Bool) (first k : ℕ) (xs : List ℤ) → k < 16 → length (provision_table html first k xs) ≤ 20000
unfolding provision_table provision_words table_most longest_from
table_most_lem html first k xs h = column_most html _ _ _ k 11 _ _ _ _ xs 20000 h (omega arith)

pub provisions_most : (html : Bool) (first k : ℕ) (xs : List ℤ) → k < 16 → length (provisions_section html first k xs) ≤ 21000
unfolding provisions_section provision_paragraph
provisions_most html first k xs h =
    opened_most html _ _ _ 20100 21000 (simp length-append (omega (arith, table_most_lem html first k xs h, section_end_most html))) (omega arith)

pub provision_plot_most : (html : Bool) (first k : ℕ) (xs : List ℤ) → k < 16 → first ≤ 65535 → Figured k xs → length (provision_plot html first k xs) ≤ 7000
unfolding provision_plot provision_plot_words
provision_plot_most html first k xs h l figured =
    let here = numbers (added_at k) (starts_of k) k h refl refl in
    pair_most html _ _ _ _ k _ _ xs 7000 (omega arith) (omega arith) (omega arith) h figured (omega arith) (omega arith) (omega arith)
