-- A table of the report: what is in it is said once, and each page shows it in its way. Assumes nothing.
use Rattle.std.specs.Prelude.{ℕ, Bool, List, ℤ}
use Rattle.parts.specs.Parts.{either}
use Rattle.table_heads.specs.declared.Shape.{Shape}
use Rattle.web_table.specs.Web.{web_table}
use Rattle.text_table.specs.Plain.{text_table}

-- a table of the kind of the key figures or of none: its words, the labels of its rows, the label of its total, its shape, and the values and styles of its cells
unfoldable pub table : Bool → Bool → List ℕ → List ℕ → List ℕ → Shape → List ℤ → List ℕ → List ℕ
table html key words labels total shape values styles =
    either html (web_table labels total shape values styles key words) (text_table words labels total shape values styles)
