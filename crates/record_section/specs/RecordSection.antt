-- The section of the report that has the record itself, in hexadecimal. Assumes nothing.
use Rattle.std.specs.Prelude.{ℕ, Bool, cond, List, [], ◌++◌, length}
use Rattle.composing.specs.Text.{ascii, decimal}
use Rattle.parts.specs.Parts.{only, section_head, section_end}
use Rattle.hexadecimal.specs.Hexadecimal.{digits_in}

-- what the digits are, on the page of HTML
unfoldable pub digits_text : ℕ → List ℕ
digits_text bytes =
    ascii "<p>All inputs but the valuation year, title, first year and any rates of inflation are these "
    ++ (decimal bytes ++ ascii " bytes, in hexadecimal; the report can be made again from them.</p>\n<p><code>")

unfoldable pub record_section : Bool → List ℕ → List ℕ
record_section html packed =
    section_head html (ascii "The record")
    ++ (cond html (digits_text (length packed)) [] ++ (digits_in html packed ++ (only html (ascii "</code></p>\n") ++ section_end html)))
