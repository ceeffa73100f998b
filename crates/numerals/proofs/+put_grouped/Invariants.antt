-- The measure is the number: a number of more than one digit is a tenth of it and one digit. Assumes nothing.
use Rattle.numerals.proofs.+put_grouped.Given as goal

abbrev pub decreases-put_grouped : goal.decreases-put_grouped
decreases-put_grouped l = l.n
