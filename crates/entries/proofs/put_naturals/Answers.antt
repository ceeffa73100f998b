-- One number more, which keeps its value as a signed one. Assumes nothing.
use Prim.Native.Nat.{◌<◌}
use native.Mathlib.Omega.{arith}
use lib.IntN.{pos}
use lib.ListN.{get_or}
use lib.Seq.{get_or-take, length-take-le}
use mir.Syntax.{w64}
use mir.ValLaws.{to_z_pos}
use Rattle.entries.proofs.Runs.{sets_map_more}
use Rattle.entries.proofs.put_naturals.Goals as goal

pub loop-i-preserved : goal.loop-i-preserved
loop-i-preserved c =
    let vs = c.args.vs.now in
    let i = c.loop-i.i in
    let long = length-take-le c.args.n vs c.requires.0 in
    let l : i < c.args.n = omega arith in
    rw (get_or-take c.args.n vs i 0 l, to_z_pos w64 (get_or vs i 0) (c.requires.1.1 i l), c.loop-i.invariant)
    (sets_map_more pos vs c.args.out.now c.args.at i 0 (omega arith))
