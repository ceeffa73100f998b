-- Refusals in words: what is not so where a question's answer is no (document 01, "Questions in their order"; requests 1 and 3 of document 02). Assumes nothing.
use Rattle.std.specs.Prelude.{ℕ, List, [], ◌∷◌, ◌++◌, get_or}
use Rattle.composing.specs.Text.{ascii, decimal}

-- for a number that no question has
abbrev pub other_text_of : List ℕ
other_text_of = ascii "no question has this number"

-- the words of the questions by their numbers. Those of 1 to 5 are true of the reader, the writer and the engine, whichever of them asks
unfoldable pub question_texts : List (List ℕ)
question_texts =
    other_text_of
    ∷ ascii "there is no record, or k is not from 1 to 15"
    ∷ ascii "a length is not what k calls for, or a filling bit is not zero"
    ∷ ascii "the lent list is too short"
    ∷ ascii "a field is out of its range"
    ∷ ascii "the reporting shares do not sum to 1,000,000"
    ∷ ascii "a given cumulative C_ij is below 0 or above 10^11"
    ∷ ascii "a column or a diagonal of the averages adds up to less than 0, or all averages to more than 1,000,000,000 hundredths"
    ∷ ascii "the triangle has no exact solution of the kind the method needs: beside some development year h nothing is left, T_h - v_h is below 1"
    ∷ ascii "a running share A_h, the shares up to a year together, is below a billionth"
    ∷ ascii "a level l_h is above 1,000,000,000 hundredths a claim"
    ∷ ascii "the ultimate X_i of an origin year is above 10^12"
    ∷ ascii "the payments add up to less than 1, or the ULAE totals to more than the payments"
    ∷ ascii "the chain ladder has nothing to develop from in some year, or a development factor above 50"
    ∷ ascii "a cumulative that the chain ladder completes is above 10^11"
    ∷ ascii "what is paid in the latest payment year, Y, is below 1, and from valuation year 2027 on the ULAE ratio is corrected by it"
    ∷ ascii "the divisor of the ULAE ratio under growth, M - w + w * B / Y, from valuation year 2027 on, is 0"
    ∷ ascii "the ULAE ratio corrected for growth, from valuation year 2027 on, is above 1"
    ∷ ascii "the average of what is still to be paid for year 0 after the last year is above 1,000,000,000 hundredths a claim"
    ∷ ascii "an average of what is still to be paid after the last year, carried to some year by the indices, is above 5,000,000,000 hundredths a claim"
    ∷ []

-- what is not so where question n's answer is no
unfoldable pub question_text : ℕ → List ℕ
question_text n = get_or question_texts n other_text_of

-- the line of a refusal
unfoldable pub refusal_text : ℕ → List ℕ
refusal_text n = ascii "refused " ++ (decimal n ++ (ascii ": " ++ (question_text n ++ ascii "\n")))
