-- Groups of three digits: one more than enough changes nothing, and a number put by its groups. Assumes nothing.
use mathlib.Core.Path.{◌≡◌, refl, sym, ap, ◌∙◌}
use mathlib.Core.Bool.{cond}
use mathlib.Core.List.{List, [], ◌∷◌, ◌++◌}
use Prim.Native.Nat.{ℕ, zero, suc, ◌/◌, ◌%◌, ◌^◌, ◌≤◌, ◌<◌}
use native.Mathlib.Nat.{pow-suc}
use native.Mathlib.Omega.{arith}
use borrow.Author.Tests.{lt-ltb, le-ltb}
use lib.Dec.{ltb}
use lib.IntN.{ℤ, nat_abs}
use Rattle.composing.specs.Text.{Put, last_digits_of, decimal, sign, without}
use Rattle.composing.proofs.Puts.{put_append, put_three, put_four, put_same}
use Rattle.numerals.specs.Numerals.{grouped_in, grouped, numeral}

module _ (before after : List ℕ) where
  -- one group
  pub groups_one : (m n : ℕ) → n < 1000 → grouped_in (suc m) before after n ≡ decimal n
  unfolding grouped_in
  groups_one m n h = rw (lt-ltb n 1000 h)

  -- the last group apart
  pub groups_last : (m n : ℕ) → 1000 ≤ n → grouped_in (suc m) before after n ≡ grouped_in m before after (n / 1000) ++ (before ++ (last_digits_of 3 n ++ after))
  unfolding grouped_in
  groups_last m n h = rw (le-ltb n 1000 h)

  -- where m groups after the first are enough, one more changes nothing
  pub enough : (m n : ℕ) → n < 1000 ^ suc m → grouped_in (suc m) before after n ≡ grouped_in m before after n
  unfolding grouped_in
  enough zero n h =
      let same : n % 1000 ≡ n = omega arith in
      rw (lt-ltb n 1000 (omega arith), same)
  enough (suc m) n h =
      ap (λ (l : List ℕ). cond (ltb n 1000) (decimal n) (l ++ (before ++ (last_digits_of 3 n ++ after))))
      (enough m (n / 1000) (omega (arith, pow-suc 1000 (suc m))))

  -- a number put as one group
  pub put_group : {a b : List ℕ} {i j : ℕ} (n : ℕ) → n < 1000 → Put a b i j (decimal n) → Put a b i j (grouped before after n)
  unfolding grouped
  put_group n h p = put_same (sym (groups_one 5 n h)) p

  -- a number of 64 bits put as the groups of its thousands and the last one
  pub put_groups : {a b c d e : List ℕ} {h i j k l : ℕ} (n : ℕ) → n < 2 ^ 64 → 1000 ≤ n → Put a b h i (grouped before after (n / 1000))
      → Put b c i j before → Put c d j k (last_digits_of 3 n) → Put d e k l after → Put a e h l (grouped before after n)
  unfolding grouped
  put_groups n most least p q r s =
      put_same (sym (groups_last 5 n least)) (put_four (put_same (enough 5 (n / 1000) (omega arith)) p) q r s)

  -- a number: no decimals, and some
  pub put_whole_numeral : {a b c : List ℕ} {i j k n w : ℕ} (d : ℕ) (z : ℤ) → d ≡ 0 → n ≡ nat_abs z → w ≡ without d n → Put a b i j (sign z)
      → Put b c j k (grouped before after w) → Put a c i k (numeral before after d z)
  unfolding numeral without
  put_whole_numeral d z none e f p q = rw none (put_append p (rw (f, e, none) at q))

  numeral_part : (d : ℕ) (z : ℤ) → (d ≡ 0 → ⊥)
      → numeral before after d z ≡ sign z ++ (grouped before after (without d (nat_abs z)) ++ (46 ∷ last_digits_of d (nat_abs z)))
  unfolding numeral
  numeral_part zero z h = absurd (h refl)
  numeral_part (suc d) z h = refl

  pub put_part_numeral : {a b c g h : List ℕ} {i j k l m n w : ℕ} (d : ℕ) (z : ℤ) → (d ≡ 0 → ⊥) → n ≡ nat_abs z → w ≡ without d n → Put a b i j (sign z)
      → Put b c j k (grouped before after w) → Put c g k l (46 ∷ []) → Put g h l m (last_digits_of d n) → Put a h i m (numeral before after d z)
  put_part_numeral d z some e f p q r s =
      put_same (sym (numeral_part d z some)) (put_four p (rw (f, e) at q) r (rw e at s))
