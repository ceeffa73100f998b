-- The provisions by origin year, by both methods: a section with a table, and a plot of the key figures. Assumes nothing.
use Rattle.std.specs.Prelude.{ℕ, ◌+◌, Bool, List, [], ◌∷◌, ◌++◌, ℤ}
use Rattle.rules.specs.Lists.{padded}
use Rattle.composing.specs.Text.{ascii}
use Rattle.parts.specs.Parts.{only, section_head, section_end}
use Rattle.listing.specs.Starts.{starts_of}
use Rattle.figure_places.specs.Places.{added_at}
use Rattle.column_table.specs.ColumnTable.{year_rows, column_table}
use Rattle.column_plot.specs.ColumnPlot.{column_plot}

-- the caption, the head over the origin years, and the heads of the columns
unfoldable pub provision_words : List ℕ
provision_words = ascii "Provisions, both methods\norigin year\nprovision\nchain ladder provision\ndifference\nprovision proved within\nof it, tail payments\npaid\nultimate\nchain ladder ultimate\nnot reported\nULAE reserve\nULAE reserve proved within\n"

-- the sections that the columns have, in the order of the heads
unfoldable pub provision_starts : ℕ → List ℕ
provision_starts k =
    let s = starts_of k in
    let a = added_at k in
    padded 12 0
    (s.provisions
    ∷ a.remaining
    ∷ a.differences
    ∷ a.allowances
    ∷ s.tails
    ∷ a.paid
    ∷ a.ultimates
    ∷ a.ladder
    ∷ s.unreported
    ∷ s.reserves
    ∷ a.margins
    ∷ [])

-- their decimals: two for how near an amount is proved to be
unfoldable pub provision_decimals : List ℕ
provision_decimals = padded 12 0 (0 ∷ 0 ∷ 0 ∷ 2 ∷ 0 ∷ 0 ∷ 0 ∷ 0 ∷ 0 ∷ 0 ∷ 2 ∷ [])

-- the table, with the totals of all columns
unfoldable pub provision_table : Bool → ℕ → ℕ → List ℤ → List ℕ
provision_table html first k xs = column_table html provision_words (ascii "total") (year_rows first (k + 1) 11) (provision_starts k) provision_decimals 0 11 xs

unfoldable pub provision_paragraph : List ℕ
provision_paragraph = ascii "<p><b>Provision:</b> what is still to be paid, the sum of the completed payments and of the tail payment. <b>Tail payment:</b> what is paid after the last development year. The chain ladder has none. <b>Not reported:</b> the part of the ultimate that is not reported yet. <b>ULAE reserve:</b> by the New York method.</p>\n"

-- the section
unfoldable pub provisions_section : Bool → ℕ → ℕ → List ℤ → List ℕ
provisions_section html first k xs =
    section_head html (ascii "Provisions by origin year") ++ (only html provision_paragraph ++ (provision_table html first k xs ++ section_end html))

-- the plot's title and description, no word for the axis, and the words of the bars
unfoldable pub provision_plot_words : List ℕ
provision_plot_words = ascii "Provision by origin year\nFor each origin year a dark bar, the provision by separation, and a light bar, that of the chain ladder. The figures are in the table of provisions.\n\nseparation\nchain ladder\n"

-- the plot: two bars for each origin year
unfoldable pub provision_plot : Bool → ℕ → ℕ → List ℤ → List ℕ
provision_plot html first k xs = column_plot html provision_plot_words 1 0 first (k + 1) (starts_of k).provisions (added_at k).remaining xs
