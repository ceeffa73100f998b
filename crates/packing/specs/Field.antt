-- One field of a row of bits, found by its place; and what a run of puts has packed: whole bytes in the buffer, and the bits that do not fill a byte yet.
-- Assumes nothing.
use Rattle.std.specs.Prelude.{ℕ, ◌+◌, ◌-◌, ◌*◌, ◌/◌, ◌%◌, ◌^◌, ◌<◌, ◌≤◌, List, length, take, drop, ◌≡◌}
use Rattle.rules.specs.Packing.{number_of}
use Rattle.rules.specs.Lists.{up_to}
use Rattle.packing.specs.declared.Pending.{Pending}

-- the w bits of the bytes s from bit place at on, as a number
unfoldable pub field_at : List ℕ → ℕ → ℕ → ℕ
field_at s at w = number_of s / 2 ^ (8 * length s - (at + w)) % 2 ^ w

-- a field of 1 to 56 bits lies within the bytes s, which are at least one word long
pub record FieldInside (s : List ℕ) (at w : ℕ) : Type 0 where
  pub some : 0 < w
  pub narrow : w ≤ 56
  pub word : 8 ≤ length s
  pub short : length s < 2 ^ 32
  pub inside : at + w ≤ 8 * length s

-- the n fields of w bits each from bit place at on
unfoldable pub row_at : List ℕ → ℕ → ℕ → ℕ → List ℕ
row_at s at w n = up_to (λ i. field_at s (at + w * i) w) n

-- the number whose bits are those packed so far
unfoldable pub packed_so : List ℕ → Pending → ℕ
packed_so s p = number_of (take p.at s) * 2 ^ p.count + p.bits

-- how many bits are packed so far
unfoldable pub place_of : Pending → ℕ
place_of p = 8 * p.at + p.count

-- fewer than 8 bits are pending, and the buffer has room for w bits more
pub record Packable (s : List ℕ) (p : Pending) (w : ℕ) : Type 0 where
  pub few : p.count < 8
  pub small : p.bits < 2 ^ p.count
  pub room : place_of p + w ≤ 8 * length s
  pub short : length s < 2 ^ 32

-- w bits more, those of x, have been packed; the bytes from q.at on, which the pending bits will go to, are what they were
pub record PackedOn (s t : List ℕ) (p q : Pending) (w x : ℕ) : Type 0 where
  pub few : q.count < 8
  pub small : q.bits < 2 ^ q.count
  pub place : place_of q ≡ place_of p + w
  pub packed : packed_so t q ≡ packed_so s p * 2 ^ w + x
  pub after : drop q.at t ≡ drop q.at s
