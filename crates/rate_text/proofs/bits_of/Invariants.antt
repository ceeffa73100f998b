-- The number so far is below a power of 16, and goes on to the number of the word with the digits that are left. Assumes nothing.
use Rattle.std.proofs.Common.{◌≡◌, ◌<◌, ◌^◌, drop}
use Rattle.rate_text.specs.RateText.{bits_from}
use Rattle.rate_text.proofs.bits_of.Given as goal

abbrev pub invariant-loop-b : goal.invariant-loop-b
invariant-loop-b l = (l.bits < 16 ^ l.b-index) × (bits_from 0 l.word ≡ bits_from l.bits (drop l.b-index l.word))
