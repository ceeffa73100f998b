-- Laws of `before` and of the slices that are cut there. Assumes nothing.
use mathlib.Core.Path.{◌≡◌, sym, ◌∙◌}
use mathlib.Core.Bool.{Bool, true, false, cond}
use mathlib.Core.List.{List, [], ◌∷◌}
use Prim.Native.Nat.{ℕ, suc, ◌+◌, ◌-◌, ◌≤◌, zero-le}
use native.Mathlib.Numerals.{add-one}
use native.Mathlib.Omega.{arith}
use lib.ListN.{length, take, drop, drop_of_length-le}
use lib.Seq.{length-take-le}
use Rattle.laws.proofs.Lists.{from_place}
use Rattle.scanning.specs.Parts.{before, until, from, past}

-- it is at most the length
pub before_most : {A : Type 0} (p : A → Bool) (xs : List A) → before p xs ≤ length xs
unfolding before
before_most p [] = zero-le
before_most p (b ∷ bs) = go (p b) (before_most p bs)
  where
    go : (t : Bool) → before p bs ≤ length bs → cond t 0 (suc (before p bs)) ≤ suc (length bs)
    go true h = zero-le
    go false h = omega arith

pub until_length : (p : ℕ → Bool) (xs : List ℕ) → length (until p xs) ≡ before p xs
unfolding until
until_length p xs = length-take-le (before p xs) xs (before_most p xs)

pub until_most : (p : ℕ → Bool) (xs : List ℕ) → length (until p xs) ≤ length xs
until_most p xs = omega (arith, until_length p xs, before_most p xs)

module _ (p : ℕ → Bool) (xs : List ℕ) (e : ℕ) (h : e ≡ before p xs) where
  pub until_is : take e xs ≡ until p xs
  unfolding until
  until_is = rw h

  pub from_is : take (length xs - e) (drop e xs) ≡ from p xs
  unfolding from
  from_is = from_place xs e ∙ rw h

  -- past a byte that is there
  pub past_is : take (length xs - (e + 1)) (drop (e + 1) xs) ≡ past p xs
  unfolding past
  past_is = from_place xs (e + 1) ∙ rw (add-one e, h)

  -- past the end comes nothing
  pub past_end : length xs ≤ e → take (length xs - e) (drop e xs) ≡ past p xs
  unfolding past
  past_end l =
      let q : length xs ≤ suc (before p xs) = omega arith in
      from_place xs e ∙ (drop_of_length-le xs l ∙ sym (drop_of_length-le xs q))
