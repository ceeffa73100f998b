-- Questions as they are put, what is not so where the answer is no, and where to look first (document 01, "Questions in their order"; requests 1 and 3 of document 02). Assumes nothing.
use Rattle.std.specs.Prelude.{ℕ, List, [], ◌∷◌, get_or}
use Rattle.composing.specs.Text.{ascii}

-- for a number that no question has
abbrev pub other_asked : List ℕ
other_asked = ascii "No question has this number."

abbrev pub other_said : List ℕ
other_said = ascii "No question has this number."

abbrev pub other_advice : List ℕ
other_advice = ascii "Look at the record."

-- the questions by their numbers, in the units of the report
unfoldable pub asked_texts : List (List ℕ)
asked_texts =
    other_asked
    ∷ ascii "Is there a record, and is k at least 1?"
    ∷ ascii "Has the record just the length that k calls for, its filling bits zero?"
    ∷ ascii "Has the lent list room for all results?"
    ∷ ascii "Is every field in its range?"
    ∷ ascii "Do the reporting shares sum to 1?"
    ∷ ascii "Is every cumulative payment from 0 to 100 000 000 000?"
    ∷ ascii "Does every column and every diagonal of averages add up to at least 0, and do all to at most 10 000 000.00?"
    ∷ ascii "Is T_h less v_h at least 0.01 for every development year h from 1 to k?"
    ∷ ascii "Is every running share at least a billionth?"
    ∷ ascii "Is every level at most 10 000 000.00?"
    ∷ ascii "Is every ultimate at most 1 000 000 000 000?"
    ∷ ascii "Are the payments at least 1 in total, and the ULAE totals at most that?"
    ∷ ascii "Has the chain ladder something to develop from in every year, and is no factor above 50?"
    ∷ ascii "Is every completed cumulative at most 100 000 000 000?"
    ∷ ascii "Is the paid total of the latest payment year at least 1?"
    ∷ ascii "Is the divisor above 0?"
    ∷ ascii "Is the corrected ratio at most 1?"
    ∷ ascii "Is the average amount after the last year at most 10 000 000.00?"
    ∷ ascii "Is every average tail amount at most 50 000 000.00?"
    ∷ []

unfoldable pub asked_text : ℕ → List ℕ
asked_text n = get_or asked_texts n other_asked

-- what is not so
unfoldable pub said_texts : List (List ℕ)
said_texts =
    other_said
    ∷ ascii "Nothing arrived, or the first four bits are zero."
    ∷ ascii "The record is shorter or longer than its k calls for, or bits after its last field are set."
    ∷ ascii "The lent list is too short."
    ∷ ascii "This field is below or above what it may be, or it is a zero with a minus sign."
    ∷ ascii "They sum to another number."
    ∷ ascii "What was paid up to there is below zero or too large."
    ∷ ascii "This column, this diagonal, or the whole triangle adds up to a number outside."
    ∷ ascii "Beside this development year h the separation finds nothing left: of all averages in development years up to it, without the h earliest payment years, nothing above zero remains once its own column is taken off."
    ∷ ascii "The shares up to this development year together round to nothing."
    ∷ ascii "The level of this payment year is too large."
    ∷ ascii "It is larger."
    ∷ ascii "ULAE paid is more than the payments."
    ∷ ascii "Over the origin years that have the next development year, the cumulatives at this one add up to nothing, or those at the next are more than 50 times as large."
    ∷ ascii "The chain ladder's cumulative there is larger."
    ∷ ascii "It is less, and the growth of the book cannot be measured."
    ∷ ascii "It is 0: the weight is 1, and what is reported in the latest year, rounded down, is less than a millionth of what is paid in it."
    ∷ ascii "It is larger."
    ∷ ascii "It is larger."
    ∷ ascii "Raised by the indices it is larger."
    ∷ []

unfoldable pub said_text : ℕ → List ℕ
said_text n = get_or said_texts n other_said

-- and where to look
unfoldable pub advice_texts : List (List ℕ)
advice_texts =
    other_advice
    ∷ ascii "Make a record with pack first."
    ∷ ascii "The file may be cut, or be of an older layout."
    ∷ ascii "Lend a longer list."
    ∷ ascii "A zero paid amount with a minus sign is out of range too."
    ∷ ascii "Shares are given in millionths."
    ∷ ascii "A recovery larger than all payments before it, a misplaced sign, or amounts in too small a unit."
    ∷ ascii "Recoveries above payments; or exposures in a larger unit than claims."
    ∷ ascii "It is proved that this is a fact about the triangle of averages, rounded to hundredths, and not about the method: Taylor's equations have no exact solution in which every running share before the last, and every sum of levels from a payment year after the first to the latest, is above zero. Look first whether the latest payment year is missing or was entered as zeros, and whether averages are lost in rounding."
    ∷ ascii "Beside later ones the averages of the first development year are very small, those of the first origin year aside. Begin at a later development year."
    ∷ ascii "Large payments for the claims of this payment year, or a small running share: look at the exposures, and whether almost everything is paid late."
    ∷ ascii "Indices are cumulative: each is against the latest year, not the year before."
    ∷ ascii "Units of the two may differ."
    ∷ ascii "A development year without payments, or with very small ones. Take two years together, or begin a year later."
    ∷ ascii "A large factor, or large payments."
    ∷ ascii "Recoveries in the latest year."
    ∷ ascii "The reporting shares, and a weight of 1."
    ∷ ascii "The reporting shares, the weight, and ULAE totals near the payments."
    ∷ ascii "The amount is for the first origin year alone."
    ∷ ascii "The first index may be very small."
    ∷ []

unfoldable pub advice_text : ℕ → List ℕ
advice_text n = get_or advice_texts n other_advice
