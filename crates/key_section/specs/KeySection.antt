-- The section of the key figures: the totals beside the provisions of both methods in a picture. Assumes nothing.
use Rattle.std.specs.Prelude.{ℕ, Bool, List, ◌++◌, ℤ}
use Rattle.composing.specs.Text.{ascii}
use Rattle.parts.specs.Parts.{only, section_head, section_end, beside_start, beside_end}
use Rattle.key_table.specs.Key.{key_table}
use Rattle.provision_section.specs.Provisions.{provision_plot}

-- what the columns say
unfoldable pub key_text : List ℕ
key_text =
    ascii "<p><b>Proved to be within:</b> for every record it accepts, the engine is proved to give the amount within this distance of the exact solution of Taylor's equations carried on without any rounding. This is about the arithmetic; it does not say how well the past foretells the future. <b>Difference:</b> separation less chain ladder.</p>\n"

unfoldable pub key_section : Bool → ℕ → ℕ → List ℤ → List ℤ → List ℕ
key_section html first k xs singles =
    section_head html (ascii "Key figures")
    ++ (beside_start html
    ++ (key_table html singles ++ (provision_plot html first k xs ++ (beside_end html ++ (only html key_text ++ section_end html)))))
