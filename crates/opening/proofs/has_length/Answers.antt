-- The end of the places is the bits of the record, of which there are at most 6370. Assumes nothing.
use mathlib.Core.Path.{◌≡◌}
use mathlib.Core.Bool.{false}
use mathlib.Core.List.{List}
use Prim.Native.Nat.{ℕ, ◌+◌, ◌-◌, ◌*◌, ◌/◌, ◌%◌, ◌^◌}
use native.Mathlib.Omega.{arith}
use lib.Dec.{eqb}
use lib.ListN.{length}
use borrow.Author.Tests.{eq-eqb, ne_eqb}
use Rattle.rules.specs.Packing.{number_of}
use Rattle.rules.specs.Record.{bit_count, byte_count, filling_count, last_year_of, filling_of}
use Rattle.rules.specs.Reading.{has_length}
use Rattle.layout.specs.declared.Places.{Places}
use Rattle.layout.specs.Places.{places_of}
use Rattle.layout.proofs.RecordSizes.{bits_most, bytes_least}
use Rattle.opening.proofs.Opened.{years_known_lem}
use Rattle.opening.proofs.has_length.Goals as goal

-- the fields end after the bits of the record
end-bits : {y : ℕ} {p : Places} (k : ℕ) → y ≡ k → p ≡ places_of y → p.end ≡ bit_count k
unfolding places_of
end-bits k e f = rw (f, e)

-- a length that is not what k calls for
other_length : (s : List ℕ) (end : ℕ) → end ≡ bit_count (last_year_of s) → (length s ≡ (end + 7) / 8 → ⊥) → false ≡ has_length s
unfolding has_length byte_count
other_length s end e d = rw (ne_eqb (length s) (byte_count (last_year_of s)) (λ l. d (omega arith)))

-- the length that k calls for leaves the filling bits to ask for
right_length : (s : List ℕ) (end : ℕ) → end ≡ bit_count (last_year_of s) → length s ≡ (end + 7) / 8
    → eqb (number_of s % 2 ^ (8 * length s - end)) 0 ≡ has_length s
unfolding has_length filling_of filling_count byte_count
right_length s end e l =
    let k : length s ≡ byte_count (last_year_of s) = omega arith in
    rw (eq-eqb (length s) (byte_count (last_year_of s)) k, k, e)

pub last_year_of-requires : goal.last_year_of-requires
last_year_of-requires c = (years_known_lem c.args.s.now c.requires).0

pub overflow_add-end : goal.overflow_add-end
overflow_add-end c =
    let k = last_year_of c.args.s.now in
    omega (arith, end-bits k c.last_year_of.ensures.0 c.places_of-end.ensures, bits_most k (omega arith))

pub zero_from-requires : goal.zero_from-requires
unfolding byte_count
zero_from-requires c =
    let k = last_year_of c.args.s.now in
    let e = end-bits k c.last_year_of.ensures.0 c.places_of-end.ensures in
    let most = bits_most k (omega arith) in
    let least = bytes_least k (years_known_lem c.args.s.now c.requires).1 in
    (omega arith, (omega arith, (omega arith, omega arith)))

pub returns-then-s-end : goal.returns-then-s-end
returns-then-s-end c =
    let s = c.args.s.now in
    let e = end-bits (last_year_of s) c.last_year_of.ensures.0 c.places_of-end.ensures in
    rw c.zero_from.ensures (right_length s c.places_of-end.result.end e c.if-s-end.true)

pub returns-else-s-end : goal.returns-else-s-end
returns-else-s-end c =
    let s = c.args.s.now in
    let e = end-bits (last_year_of s) c.last_year_of.ensures.0 c.places_of-end.ensures in
    rw (ne_eqb (length s) ((c.places_of-end.result.end + 7) / 8) c.if-s-end.false) (other_length s c.places_of-end.result.end e c.if-s-end.false)
