-- The unit of a plot's axis in words. Assumes nothing.
use Rattle.std.specs.Prelude.{ℕ, cond, List, [], eqb}
use Rattle.composing.specs.Text.{ascii}

-- a unit above 1 in words
unfoldable pub unit_word : ℕ → List ℕ
unit_word unit =
    cond (eqb unit 1) [] (cond (eqb unit 1000) (ascii "thousands") (cond (eqb unit 1000000) (ascii "millions") (ascii "thousand millions")))

-- the space between it and a word for the axis of this size
unfoldable pub word_gap : ℕ → ℕ → List ℕ
word_gap unit size = cond (eqb unit 1) [] (cond (eqb size 0) [] (ascii " "))
