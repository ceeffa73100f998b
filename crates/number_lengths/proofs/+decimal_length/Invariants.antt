-- The measure is the number: a number of more than one digit is a tenth of it and one digit. Assumes nothing.
use Rattle.number_lengths.proofs.+decimal_length.Given as goal

abbrev pub decreases-decimal_length : goal.decreases-decimal_length
decreases-decimal_length l = l.n
