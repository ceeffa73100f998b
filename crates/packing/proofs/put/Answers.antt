-- Each turn writes the first 8 pending bits and keeps the number whose bits are packed. Assumes nothing.
use mathlib.Core.Path.{refl, ◌∙◌}
use Prim.Native.Nat.{◌+◌, ◌-◌}
use native.Mathlib.Nat.{mod-lt}
use native.Mathlib.Omega.{arith}
use lib.Pow.{pow_pos, pow_mono}
use lib.Seq.{drop-set-lt}
use Rattle.packing.specs.Field.{packed_so, place_of}
use Rattle.packing.proofs.BitPlaces.{one_shl}
use Rattle.packing.proofs.Puts.{added_lt, added, byte_written, drop_further}
use Rattle.packing.proofs.put.Goals as goal

pub overflow_add-bits : goal.overflow_add-bits
overflow_add-bits c =
    omega (
      arith,
      added_lt c.requires.0 c.requires.1.0 c.requires.1.1,
      pow_mono {i = c.args.p.count + c.args.w} {j = 64} (omega arith),
    )

pub loop-count-init : goal.loop-count-init
loop-count-init c = record {
  packed = refl;
  small = added_lt c.requires.0 c.requires.1.0 c.requires.1.1;
  place = refl;
  fewer = omega arith;
  after = refl;
}

pub bounds-buffer-at : goal.bounds-buffer-at
unfolding place_of
bounds-buffer-at c = omega arith

pub overflow_add-at : goal.overflow_add-at
unfolding place_of
overflow_add-at c = omega arith

pub loop-count-preserved : goal.loop-count-preserved
unfolding place_of
loop-count-preserved c =
    let inv = c.loop-count.invariant in
    let s = c.loop-count.buffer in
    let at = c.loop-count.at in
    let count = c.loop-count.count in
    let bits = c.loop-count.bits in record {
      packed = rw (one_shl (count - 8) (omega arith)) (byte_written s at count bits (omega arith) (omega arith) inv.small) ∙ inv.packed;
      small = rw (one_shl (count - 8) (omega arith)) (mod-lt bits (pow_pos (count - 8)));
      place = omega arith;
      fewer = omega arith;
      after = drop-set-lt (at + 1) s at _ (omega arith) ∙ drop_further at (at + 1) s _ (omega arith) inv.after;
    }

pub returns : goal.returns
unfolding packed_so place_of
returns c =
    let inv = c.loop-count.invariant in
    record { few = omega arith; small = inv.small; place = omega arith; packed = inv.packed ∙ added c.requires.0 c.requires.1.0 c.requires.1.1; after = inv.after }
