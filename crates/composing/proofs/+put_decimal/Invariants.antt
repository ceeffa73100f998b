-- The measure is the number: a number of more than one digit is a tenth of it and one digit. Assumes nothing.
use Rattle.composing.proofs.+put_decimal.Given as goal

abbrev pub decreases-put_decimal : goal.decreases-put_decimal
decreases-put_decimal l = l.n
