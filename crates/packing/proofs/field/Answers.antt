-- The field lies within the word that is read. Assumes nothing.
use mathlib.Core.Path.{◌≡◌, sym}
use Prim.Native.Nat.{◌+◌, ◌-◌, ◌*◌, ◌≤◌}
use native.Mathlib.Omega.{arith}
use lib.ListN.{length}
use Rattle.packing.proofs.BitPlaces.{one_shl, field_within}
use Rattle.packing.proofs.field.Goals as goal

pub returns : goal.returns
returns c =
    let s = c.args.s.now in
    let at = c.args.at in
    let w = c.args.w in
    let i = c.min-i.result in
    let h : 8 * i + 64 ≤ 8 * length s = omega arith in
    let k : at - 8 * i + w ≤ 64 = omega arith in
    let d : 8 * i + (at - 8 * i) ≡ at = omega arith in
    let e : 64 - (at - 8 * i) - w ≡ 8 * i + 64 - at - w = omega arith in
    let f = rw (d, e) at (field_within s (8 * i) 64 (at - 8 * i) w h k) in
    rw (one_shl w (omega arith), c.word.ensures) (sym f)
