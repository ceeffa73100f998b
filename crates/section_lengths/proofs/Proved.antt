-- How long the section of what is proved is at most, and that of a refused record: a byte of a paragraph takes five at most. Assumes nothing.
use mathlib.Core.Bool.{Bool, true}
use mathlib.Core.List.{List}
use Prim.Native.Nat.{ℕ, ◌+◌, ◌*◌, ◌≤◌}
use native.Mathlib.Omega.{arith}
use lib.IntN.{ℤ}
use lib.ListN.{length, length-append}
use Rattle.composing.specs.Text.{ascii}
use Rattle.composing.proofs.Decimals.{length_most}
use Rattle.lines.proofs.Longest.{longest_from}
use Rattle.parts.proofs.Lengths.{either_most, section_start_most, section_end_most}
use Rattle.titles.specs.Titles.{escaped}
use Rattle.titles.proofs.Titles.{text_most}
use Rattle.paragraphs.specs.Paragraphs.{words, paragraph_start, paragraph_end, paragraph}
use Rattle.table_lengths.proofs.Most.{table_most}
use Rattle.single_tables.specs.Singles.{limits_table}
use Rattle.proof_section.specs.Proved.{every_figure, exact_solution, shares_near, shares_paragraph, every_amount, roundings, no_range, proved_paragraphs, proof_section, every_record, refused_proof}
use Rattle.section_lengths.proofs.Tables.{picked_most}

-- words, and a paragraph of them
pub words_most : (html : Bool) (text : List ℕ) → length (words html text) ≤ 5 * length text
unfolding words
words_most html text = either_most html (escaped text) text (5 * length text) (text_most true text) (omega arith)

pub start_most : (html : Bool) → length (paragraph_start html) ≤ 3
unfolding paragraph_start
start_most html = either_most html (ascii "<p>") (ascii "\n") 3 (omega arith) (omega arith)

pub end_most : (html : Bool) → length (paragraph_end html) ≤ 5
unfolding paragraph_end
end_most html = either_most html (ascii "</p>\n") (ascii "\n") 5 (omega arith) (omega arith)

pub paragraph_most : (html : Bool) (text : List ℕ) → length (paragraph html text) ≤ 8 + 5 * length text
unfolding paragraph
paragraph_most html text = simp length-append (omega (arith, start_most html, words_most html text, end_most html))

shares_most : (html : Bool) (k : ℕ) → length (shares_paragraph html k) ≤ 1100
unfolding shares_paragraph
shares_most html k =
    simp length-append (omega (arith, start_most html, words_most html exact_solution, length_most (k + 1), words_most html shares_near, end_most html))

proved_most : (html : Bool) (k : ℕ) → length (proved_paragraphs html k) ≤ 6000
unfolding proved_paragraphs
proved_most html k =
    simp length-append
    (omega (arith, paragraph_most html every_figure, shares_most html k, paragraph_most html every_amount, paragraph_most html roundings, paragraph_most html no_range))

limits_most : (html : Bool) (singles : List ℤ) → length (limits_table html singles) ≤ 2900
unfolding limits_table table_most longest_from
limits_most html singles = picked_most html _ _ _ _ singles _ _ 9 2900 (omega arith) (omega arith)

pub proof_most : (html : Bool) (k : ℕ) (singles : List ℤ) → length (proof_section html k singles) ≤ 9000
unfolding proof_section
proof_most html k singles =
    simp length-append
    (omega
    (arith, section_start_most html (ascii "What is proved, and how figures are rounded"), proved_most html k, limits_most html singles, section_end_most html))

pub refused_proof_most : (html : Bool) → length (refused_proof html) ≤ 1300
unfolding refused_proof
refused_proof_most html =
    simp length-append (omega (arith, section_start_most html (ascii "What is proved"), paragraph_most html every_record, section_end_most html))
