-- What a writer answers, by the first question that says no, and what the buffer then holds. Assumes nothing.
use Prim.Native.Nat.{ℕ, suc}
use mathlib.Core.Path.{◌≡◌, sym}
use mathlib.Core.Bool.{true, false}
use mathlib.Core.List.{List}
use lib.ListN.{length}
use Rattle.rules.specs.Questions.{first_no, after_call}
use Rattle.rules.specs.Record.{Figures, record_of}
use Rattle.rules.specs.Writing.{given_fields, given_last_year, given_lengths, given_ranges, given_sum, write_answer, write_into}

-- the number of the first question that says no, and 0 where each says yes
module _ (g : Figures) (m : ℕ) where
  pub answer_1 : given_last_year g ≡ false → write_answer g m ≡ 1
  unfolding write_answer first_no
  answer_1 a = rw a

  pub answer_2 : given_last_year g ≡ true → given_lengths g m ≡ false → write_answer g m ≡ 2
  unfolding write_answer first_no
  answer_2 a b = rw (a, b)

  pub answer_4 : given_last_year g ≡ true → given_lengths g m ≡ true → given_ranges g ≡ false → write_answer g m ≡ 4
  unfolding write_answer first_no
  answer_4 a b c = rw (a, b, c)

  pub answer_5 : given_last_year g ≡ true → given_lengths g m ≡ true → given_ranges g ≡ true → given_sum g ≡ false → write_answer g m ≡ 5
  unfolding write_answer first_no
  answer_5 a b c d = rw (a, b, c, d)

  pub answer_0 : given_last_year g ≡ true → given_lengths g m ≡ true → given_ranges g ≡ true → given_sum g ≡ true → write_answer g m ≡ 0
  unfolding write_answer first_no
  answer_0 a b c d = rw (a, b, c, d)

module _ (g : Figures) (buffer : List ℕ) where
  -- a refusal leaves the buffer
  pub refused : (n : ℕ) → write_answer g (length buffer) ≡ suc n → (suc n ≡ write_answer g (length buffer)) × (buffer ≡ write_into g buffer)
  unfolding write_into after_call
  refused n e = (sym e, rw e)

  -- and on 0 it holds the record
  pub accepted : {written : List ℕ} → write_answer g (length buffer) ≡ 0 → written ≡ record_of g.k (given_fields g)
      → (0 ≡ write_answer g (length buffer)) × (written ≡ write_into g buffer)
  unfolding write_into after_call
  accepted e w = (sym e, rw e w)
