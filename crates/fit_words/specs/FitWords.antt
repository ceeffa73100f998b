-- What is said of the averages and how well they are fitted. Assumes nothing.
use Rattle.std.specs.Prelude.{ℕ, Bool, cond, List, [], ◌++◌, eqb, ℤ}
use Rattle.composing.specs.Text.{ascii, decimal}
use Rattle.parts.specs.Parts.{either}
use Rattle.fit_sums.specs.FitSums.{fit_sums}

-- how many payments are lost, where some are
unfoldable pub lost_payments : Bool → ℕ → List ℕ
lost_payments html lost =
    cond
    (eqb lost 0)
    []
    (either html (ascii "<p><b>Payments that are not zero and have an average of 0.00: ") (ascii "Payments that are not zero and have an average of 0.00: ")
    ++ (decimal lost
    ++ (either html (ascii ". ") (ascii ".\n")
    ++ (ascii "The exposures are too large for the amounts, which should be given in a smaller unit."
    ++ either html (ascii "</b></p>\n") (ascii "\n")))))

-- what stands between the two tables
unfoldable pub fit_words : Bool → ℤ → ℤ → ℕ → List ℕ
fit_words html averages gaps lost = fit_sums html averages gaps ++ lost_payments html lost
