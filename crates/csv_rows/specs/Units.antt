-- The units of the values in the comma-separated values. Assumes nothing.
use Rattle.std.specs.Prelude.{ℕ, List}
use Rattle.composing.specs.Text.{ascii}

abbrev pub hundredths : List ℕ
hundredths = ascii "hundredths a claim"

abbrev pub billionths : List ℕ
billionths = ascii "billionths"

abbrev pub millionths : List ℕ
millionths = ascii "millionths"

abbrev pub currency : List ℕ
currency = ascii "currency units"
