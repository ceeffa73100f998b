-- How long the words are at most. Assumes nothing.
use mathlib.Core.Bool.{Bool, true, false}
use Prim.Native.Nat.{ℕ, ◌≤◌}
use native.Mathlib.Omega.{arith}
use lib.ListN.{length, length-append}
use Rattle.composing.proofs.Decimals.{length_most}
use Rattle.drift_words.specs.Words.{most_words, axis_word, drift_words}

axis_word_most : (percent : Bool) → length (axis_word percent) ≤ 30
unfolding axis_word
axis_word_most true = omega arith
axis_word_most false = omega arith

pub words_most : (j : ℕ) (percent : Bool) → length (drift_words j percent) ≤ most_words
unfolding drift_words
words_most j percent = simp length-append (omega (arith, length_most j, axis_word_most percent))
