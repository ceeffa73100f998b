-- The section of the inputs, as given. Assumes nothing.
use Rattle.std.specs.Prelude.{ℕ, Bool, List, ◌++◌, ℤ}
use Rattle.composing.specs.Text.{ascii}
use Rattle.parts.specs.Parts.{section_head, section_end, beside_start, beside_end}
use Rattle.input_tables.specs.Inputs.{input_tables}
use Rattle.single_tables.specs.Singles.{single_table}
use Rattle.increment_table.specs.Increments.{increment_table}

unfoldable pub input_section : Bool → ℕ → ℕ → List ℤ → List ℤ → List ℕ
input_section html first k xs singles =
    section_head html (ascii "Inputs as given")
    ++ (beside_start html
    ++ (input_tables html first k xs ++ (single_table html singles ++ (beside_end html ++ (increment_table html first k xs ++ section_end html)))))
