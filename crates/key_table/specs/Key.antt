-- The table of the key figures: totals of all origin years, both methods beside each other. Assumes nothing.
use Rattle.std.specs.Prelude.{ℕ, Bool, true, List, [], ◌∷◌, ℤ}
use Rattle.composing.specs.Text.{ascii}
use Rattle.table_heads.specs.declared.Shape.{Shape}
use Rattle.summary_figures.specs.Summary.{provision_at, ladder_provision_at, difference_at, allowance_at, tail_payments_at, tail_allowance_at, reserve_at, margin_at, together_at, both_allowances_at, paid_at, ultimate_at, ladder_at, plain_ratio_at, used_ratio_at}
use Rattle.picked_table.specs.Picked.{Cell, amount, hundredths, ratio, nothing, places_of, kinds_of, picked_table}

-- the cells of the table, a line for each row
unfoldable pub key_rows : List (List Cell)
key_rows =
    (amount provision_at ∷ amount ladder_provision_at ∷ amount difference_at ∷ hundredths allowance_at ∷ [])
    ∷ (amount tail_payments_at ∷ nothing ∷ nothing ∷ hundredths tail_allowance_at ∷ [])
    ∷ (amount reserve_at ∷ nothing ∷ nothing ∷ hundredths margin_at ∷ [])
    ∷ (amount together_at ∷ nothing ∷ nothing ∷ hundredths both_allowances_at ∷ [])
    ∷ (amount paid_at ∷ amount paid_at ∷ nothing ∷ nothing ∷ [])
    ∷ (amount ultimate_at ∷ amount ladder_at ∷ amount difference_at ∷ hundredths allowance_at ∷ [])
    ∷ (ratio plain_ratio_at ∷ nothing ∷ nothing ∷ nothing ∷ [])
    ∷ (ratio used_ratio_at ∷ nothing ∷ nothing ∷ nothing ∷ [])
    ∷ []

-- the table: its words, its labels and its shape
abbrev pub key_words : List ℕ
key_words = ascii "Totals of all origin years\namount\nseparation\nchain ladder\ndifference\nproved to be within\n"

abbrev pub key_labels : List ℕ
key_labels =
    ascii "Provision\nof it, tail payments\nULAE reserve\nBoth together\nPaid to date\nUltimate\nULAE ratio, plain\nULAE ratio, used\n"

abbrev pub key_shape : Shape
key_shape = record { rows = 8; columns = 4; years = 0; from = 0 }

-- the table, of the kind of the key figures, from the single figures
unfoldable pub key_table : Bool → List ℤ → List ℕ
key_table html figures = picked_table html true key_words key_labels key_shape figures (places_of key_rows) (kinds_of key_rows)
