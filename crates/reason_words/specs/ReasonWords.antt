-- What is said of a year of which question 7 or 13 says no. Assumes nothing.
use Rattle.std.specs.Prelude.{ℕ, ◌+◌, List, ◌++◌}
use Rattle.composing.specs.Text.{ascii, decimal}

-- the total of a year of this kind is below 0
unfoldable pub year_reason : List ℕ → ℕ → List ℕ
year_reason kind y = ascii "the averages of " ++ (kind ++ (decimal y ++ ascii " add up to less than 0"))

-- B of year h is below 1
unfoldable pub base_reason : ℕ → List ℕ
base_reason h =
    ascii "the chain ladder has nothing to develop from: up to development year "
    ++ (decimal h ++ ascii " nothing is paid for the origin years that have a later one")

-- its development factor is above 50
unfoldable pub factor_reason : ℕ → List ℕ
factor_reason h = ascii "the chain ladder's development factor from development year " ++ (decimal h ++ (ascii " to " ++ (decimal (h + 1) ++ ascii " is above 50")))
