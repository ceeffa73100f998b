-- A table of the figures that a question has found; of a field, and of a development year. Assumes nothing.
use Rattle.std.specs.Prelude.{ℕ, ◌+◌, Bool, false, cond, List, [], ◌∷◌, eqb, pos}
use Rattle.std.specs.Int.Signed.{lt_z}
use Rattle.rules.specs.Lists.{padded}
use Rattle.composing.specs.Text.{ascii}
use Rattle.table_cells.specs.Cells.{most_places, plain, percentage, styled}
use Rattle.table_heads.specs.declared.Shape.{Shape}
use Rattle.table.specs.Table.{table}
use Rattle.finding.specs.declared.Finding.{Finding}
use Rattle.finding.specs.Places.{field}

-- the styles of amounts, hundredths, millionths, billionths and ratios
abbrev pub amount : ℕ
amount = styled plain 0

abbrev pub hundredths : ℕ
hundredths = styled plain 2

abbrev pub millionths : ℕ
millionths = styled plain 6

abbrev pub billionths : ℕ
billionths = styled plain 9

abbrev pub ratio : ℕ
ratio = styled percentage 4

-- the words over the figures, of amounts and others, and of averages alone
abbrev pub value_words : List ℕ
value_words = ascii "The question's figures\nfigure\nvalue\n"

abbrev pub claim_words : List ℕ
claim_words = ascii "The question's figures\nfigure\na claim\n"

-- a table of so many of the three figures, each with its label and in its style
abbrev pub figure_shape : ℕ → Shape
figure_shape rows = record { rows = rows; columns = 1; years = 0; from = 0 }

unfoldable pub figure_table : Bool → List ℕ → List ℕ → ℕ → ℕ → ℕ → ℕ → Finding → List ℕ
figure_table html words labels rows a b c f =
    table html false words labels [] (figure_shape rows) (padded most_places (pos 0) (f.one ∷ f.two ∷ f.three ∷ [])) (padded most_places 0 (a ∷ b ∷ c ∷ []))

-- a field and its range: indices, reporting shares and the weight are millionths
unfoldable pub field_style : ℕ → ℕ
field_style place = cond (eqb place (field + 3)) millionths (cond (eqb place (field + 4)) millionths (cond (eqb place (field + 5)) millionths amount))

unfoldable pub field_table : Bool → Finding → List ℕ
field_table html f =
    let style = field_style f.place in
    figure_table html value_words (ascii "The field\nThe least it may be\nThe largest it may be\n") 3 style style style f

-- the sums of a development year and of the next, and the factor where the first is above 0
unfoldable pub sums_table : Bool → ℕ → Finding → List ℕ
sums_table html rows f =
    figure_table html value_words (ascii "Sum at this development year, over origin years that have the next\nSum at the next, over the same origin years\nDevelopment factor\n") rows amount amount millionths f

unfoldable pub development_table : Bool → Finding → List ℕ
development_table html f = cond (lt_z f.one (pos 1)) (sums_table html 2 f) (sums_table html 3 f)
