-- Two tables of single figures: those that are given, and the limits of the package beside the largest figures here. Assumes nothing.
use Rattle.std.specs.Prelude.{ℕ, Bool, false, List, [], ◌∷◌, ℤ}
use Rattle.composing.specs.Text.{ascii}
use Rattle.table_heads.specs.declared.Shape.{Shape}
use Rattle.summary_figures.specs.Summary.{year_at, weight_at, tail_at, most_years_at, years_at, most_exposure_at, largest_exposure_at, most_increment_at, largest_increment_at, most_cumulative_at, largest_cumulative_at, most_averages_at, averages_at, most_level_at, largest_level_at, most_index_at, largest_index_at, most_ultimate_at, largest_ultimate_at, most_factor_at, largest_factor_at}
use Rattle.picked_table.specs.Picked.{Cell, amount, hundredths, millionths, yearly, places_of, kinds_of, picked_table}

-- the cells of the table of what is given, a line for each row
unfoldable pub single_rows : List (List Cell)
single_rows =
    (yearly year_at ∷ [])
    ∷ (millionths weight_at ∷ [])
    ∷ (amount tail_at ∷ [])
    ∷ []

-- the table of what is given: its words, its labels and its shape
abbrev pub single_words : List ℕ
single_words = ascii "Single figures\nfigure\nvalue\n"

abbrev pub single_labels : List ℕ
single_labels =
    ascii "Valuation year\nReporting weight\nStill to be paid for the first origin year after the last development year\n"

abbrev pub single_shape : Shape
single_shape = record { rows = 3; columns = 1; years = 0; from = 0 }

unfoldable pub single_table : Bool → List ℤ → List ℕ
single_table html figures = picked_table html false single_words single_labels single_shape figures (places_of single_rows) (kinds_of single_rows)

-- the cells of the table of limits, a line for each row
unfoldable pub limit_rows : List (List Cell)
limit_rows =
    (amount most_years_at ∷ amount years_at ∷ [])
    ∷ (amount most_exposure_at ∷ amount largest_exposure_at ∷ [])
    ∷ (amount most_increment_at ∷ amount largest_increment_at ∷ [])
    ∷ (amount most_cumulative_at ∷ amount largest_cumulative_at ∷ [])
    ∷ (hundredths most_averages_at ∷ hundredths averages_at ∷ [])
    ∷ (hundredths most_level_at ∷ hundredths largest_level_at ∷ [])
    ∷ (millionths most_index_at ∷ millionths largest_index_at ∷ [])
    ∷ (amount most_ultimate_at ∷ amount largest_ultimate_at ∷ [])
    ∷ (millionths most_factor_at ∷ millionths largest_factor_at ∷ [])
    ∷ []

-- the table of limits: its words, its labels and its shape
abbrev pub limit_words : List ℕ
limit_words = ascii "Limits of the package\nlimit\nlargest accepted\nlargest here\n"

abbrev pub limit_labels : List ℕ
limit_labels =
    ascii "Origin years\nClaims of an origin year\nSize of a paid increment\nCumulative payment, completed ones too\nAll averages together, a claim\nLevel, a claim\nIndex\nUltimate of an origin year\nDevelopment factor\n"

abbrev pub limit_shape : Shape
limit_shape = record { rows = 9; columns = 2; years = 0; from = 0 }

unfoldable pub limits_table : Bool → List ℤ → List ℕ
limits_table html figures = picked_table html false limit_words limit_labels limit_shape figures (places_of limit_rows) (kinds_of limit_rows)
