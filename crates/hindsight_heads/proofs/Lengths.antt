-- How long the words are at most. Assumes nothing.
use Prim.Native.Nat.{ℕ, ◌+◌, ◌≤◌}
use native.Mathlib.Omega.{arith}
use lib.ListN.{length, length-append}
use Rattle.rules.specs.Hindsight.{most_settings}
use Rattle.composing.proofs.Decimals.{length_most}
use Rattle.plot_lengths.proofs.Drawn.{joined_most}
use Rattle.hindsight_heads.specs.Heads.{most_heads, setting_head, steps_words}

head_most_lem : (a : ℕ) → length (setting_head a) ≤ 29
unfolding setting_head
head_most_lem a = simp length-append (omega (arith, length_most (a + 1)))

pub words_most : (n : ℕ) → n ≤ most_settings → length (steps_words n) ≤ most_heads
unfolding steps_words
words_most n few = simp length-append (omega (arith, joined_most setting_head 29 n (λ a l. head_most_lem a)))
