-- Line n of a text that is lines is the n-th of them, where no line has a line feed in it. Assumes nothing.
use mathlib.Core.Path.{◌≡◌, refl, sym, ap, ◌∙◌}
use mathlib.Core.Bool.{Bool, true, false, not, cond}
use mathlib.Core.List.{List, [], ◌∷◌, ◌++◌, append-nil}
use Prim.Native.Nat.{ℕ, zero, suc, ◌+◌, ◌-◌, ◌≤◌, ◌<◌}
use native.Mathlib.Decide.{dec_lt}
use native.Mathlib.Numerals.{add-one}
use native.Mathlib.Omega.{arith}
use borrow.Author.Tests.{not-true, lt-ltb, le-ltb}
use lib.Dec.{eqb}
use lib.ListN.{length, get_or, take, drop}
use lib.Seq.{drop-cons, drop-length, take_all}
use Rattle.std.specs.List.{position, position_or_len}
use Rattle.std.specs.Prelude.{nat_eq, unwrap_or}
use Rattle.rules.specs.Lists.{every}
use Rattle.laws.proofs.Lists.{both_left, both_right}
use Rattle.entries.specs.Leading.{passing}
use Rattle.entries.proofs.Leading.{passing_append}
use Rattle.lines.specs.Lines.{written, in_line, first_line, from_line}

-- the next line is past this one's line feed
past_line : (line text other : List ℕ) (n : ℕ) → every in_line line ≡ true → from_line (suc n) other (line ++ (10 ∷ text)) ≡ from_line n other text
unfolding every from_line
past_line [] text other n h = refl
past_line (b ∷ line) text other n h =
    ap (λ (t : Bool). from_line (cond t n (suc n)) other (line ++ (10 ∷ text))) (not-true (eqb b 10) (both_left (in_line b) (every in_line line) h))
    ∙ past_line line text other n (both_right (in_line b) (every in_line line) h)

-- line n, or the first line of the other text
pub line_is : (lines : List (List ℕ)) (other : List ℕ) (n : ℕ) → every (every in_line) lines ≡ true
    → first_line (from_line n other (written lines)) ≡ get_or lines n (first_line other)
unfolding written first_line from_line every passing
line_is [] other n h = refl
line_is (line ∷ lines) other zero h =
    rw (from_first line) (passing_append in_line line (10 ∷ written lines) (both_left (every in_line line) (every (every in_line) lines) h) ∙ append-nil line)
  where
    from_first : (line : List ℕ) → from_line 0 other (line ++ (10 ∷ written lines)) ≡ line ++ (10 ∷ written lines)
    from_first [] = refl
    from_first (b ∷ line) = refl
line_is (line ∷ lines) other (suc n) h =
    rw (past_line line (written lines) other n (both_left (every in_line line) (every (every in_line) lines) h))
    (line_is lines other n (both_right (every in_line line) (every (every in_line) lines) h))

-- what a loop from the front knows of the text from line n on: no line feed is left to pass, one byte more, and the end
pub from_here : (text other : List ℕ) (i left : ℕ) → i < length text → left ≡ 0 → drop i text ≡ from_line left other (drop i text)
unfolding from_line
from_here text other i left l e = rw (drop-cons text i 0 l, e)

pub from_next : (text other : List ℕ) (i left : ℕ) → i < length text → (left ≡ 0 → ⊥)
    → from_line left other (drop i text) ≡ from_line (cond (eqb (get_or text i 0) 10) (left - 1) left) other (drop (i + 1) text)
unfolding from_line
from_next text other i zero l some = absurd (some refl)
from_next text other i (suc m) l some =
    let less : suc m - 1 ≡ m = omega arith in
    rw (drop-cons text i 0 l, add-one i, less)

pub from_end : (text other : List ℕ) (i left : ℕ) → i ≡ length text → other ≡ from_line left other (drop i text)
unfolding from_line
from_end text other i left e = rw (e, drop-length text)

-- the first line ends at the first line feed, or where the text ends
pub line_found : (text : List ℕ) (n : ℕ) → n ≡ unwrap_or (position (λ b. nat_eq b 10) text) (length text) → (n ≤ length text) × (take n text ≡ first_line text)
unfolding first_line passing
line_found text n e = go (dec_lt (position_or_len (λ b. nat_eq b 10) text) (length text))
  where
    front : (xs : List ℕ) → take (position_or_len (λ b. nat_eq b 10) xs) xs ≡ passing in_line xs
    front [] = refl
    front (x ∷ xs) = by (nat_eq x 10) (front xs)
      where
        by : (t : Bool) → take (position_or_len (λ b. nat_eq b 10) xs) xs ≡ passing in_line xs
            → take (cond (not t) (1 + position_or_len (λ b. nat_eq b 10) xs) 0) (x ∷ xs) ≡ cond (not t) (x ∷ passing in_line xs) []
        by true h = refl
        by false h = let s : 1 + position_or_len (λ b. nat_eq b 10) xs ≡ suc (position_or_len (λ b. nat_eq b 10) xs) = omega arith in rw s (ap (λ (l : List ℕ). x ∷ l) h)

    go : Dec (position_or_len (λ b. nat_eq b 10) text < length text) → (n ≤ length text) × (take n text ≡ passing in_line text)
    go (yes h) =
        let f : n ≡ position_or_len (λ b. nat_eq b 10) text = rw (lt-ltb (position_or_len (λ b. nat_eq b 10) text) (length text) h) at e in
        (omega (arith, f), rw f (front text))
    go (no h) =
        let f : n ≡ length text = rw (le-ltb (position_or_len (λ b. nat_eq b 10) text) (length text) (omega arith)) at e in
        (omega (arith, f), take_all n text (omega (arith, f)) ∙ sym (take_all (position_or_len (λ b. nat_eq b 10) text) text (omega arith)) ∙ front text)
