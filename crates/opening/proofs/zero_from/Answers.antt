-- The last n bits are the field of n bits that ends where the bytes end. Assumes nothing.
use mathlib.Core.Path.{◌≡◌}
use mathlib.Core.List.{List}
use Prim.Native.Nat.{ℕ, ◌+◌, ◌-◌, ◌*◌, ◌%◌, ◌^◌}
use native.Mathlib.Nat.{div-one}
use native.Mathlib.Omega.{arith}
use lib.ListN.{length}
use Rattle.rules.specs.Packing.{number_of}
use Rattle.packing.specs.Field.{field_at}
use Rattle.opening.proofs.zero_from.Goals as goal

-- a field after which no bits stand
field-last : (s : List ℕ) (at w : ℕ) → at + w ≡ 8 * length s → field_at s at w ≡ number_of s % 2 ^ w
unfolding field_at
field-last s at w h =
    let e : 8 * length s - (at + w) ≡ 0 = omega arith in
    rw (e, div-one (number_of s))

pub returns-else-n-eq0 : goal.returns-else-n-eq0
returns-else-n-eq0 c =
    let s = c.args.s.now in
    rw (c.field.ensures, field-last s c.args.end (8 * length s - c.args.end) (omega arith))
