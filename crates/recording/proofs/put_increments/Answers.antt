-- Before each turn the bits of the increments behind are packed. Assumes nothing.
use mir.Syntax.{w64}
use mathlib.Core.Path.{◌≡◌}
use mathlib.Core.Bool.{true}
use mathlib.Core.List.{List, map}
use Prim.Native.Nat.{ℕ, ◌+◌, ◌*◌, ◌^◌, ◌<◌}
use native.Mathlib.Omega.{arith}
use lib.IntN.{ℤ, pos}
use lib.ListN.{length, get_or, take, replicate, length-map, get_or-map}
use mir.Facts.{to_z-of_z}
use mir.Val.{to_z, of_z}
use Rattle.rules.specs.Packing.{pack}
use Rattle.rules.specs.Lists.{every}
use Rattle.rules.specs.Record.{increment, in_range, code_of}
use Rattle.packing.proofs.Pack.{pack_next}
use Rattle.packing.proofs.Puts.{packed_none, packed_then}
use Rattle.laws.proofs.Lists.{every_at}
use Rattle.laws.proofs.Signed.{size_fits}
use Rattle.recording.proofs.WrittenSigns.{size_most}
use Rattle.recording.proofs.put_increments.Goals as goal

-- one increment more
codes-more : (ps : List ℤ) (i : ℕ) → i < length ps
    → pack (replicate (i + 1) 35) (take (i + 1) (map (code_of increment) ps))
    ≡ pack (replicate i 35) (take i (map (code_of increment) ps)) * 2 ^ 35 + code_of increment (get_or ps i (pos 0))
unfolding code_of
codes-more ps i h =
    let cs = map (code_of increment) ps in
    let l : length cs ≡ length ps = length-map ps (code_of increment) in
    rw (← get_or-map (code_of increment) ps i (pos 0)) (pack_next 35 cs i (omega arith))

-- an increment is held as it is
module _ (ps : List ℤ) (i : ℕ) (h : i < length ps) (e : every (in_range increment) ps ≡ true) where
  ranged : in_range increment (get_or ps i (pos 0)) ≡ true
  ranged = every_at (in_range increment) ps i (pos 0) h e

  kept : to_z w64 (of_z w64 (get_or ps i (pos 0))) ≡ get_or ps i (pos 0)
  kept = to_z-of_z {w = w64} (size_fits (get_or ps i (pos 0)) (omega (arith, size_most (get_or ps i (pos 0)) ranged)))

pub loop-x-init : goal.loop-x-init
unfolding pack
loop-x-init c = packed_none c.requires.0

pub code_of-requires : goal.code_of-requires
code_of-requires c =
    let ps = c.args.ps.now in
    let i = c.loop-x.x-index in
    rw (kept ps i (omega arith) c.requires.1) (ranged ps i (omega arith) c.requires.1)

pub loop-x-preserved : goal.loop-x-preserved
loop-x-preserved c =
    let ps = c.args.ps.now in
    let i = c.loop-x.x-index in
    let code = rw (kept ps i (omega arith) c.requires.1) at c.code_of.ensures.0 in
    let e : 35 * (i + 1) ≡ 35 * i + 35 = omega arith in
    rw (e, codes-more ps i (omega arith), ← code) (packed_then c.loop-x.invariant c.put-q.ensures)
