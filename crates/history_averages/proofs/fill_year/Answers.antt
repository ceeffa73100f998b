-- The averages behind are stored. Assumes nothing.
use mathlib.Core.Path.{◌≡◌, refl, ◌∙◌}
use mathlib.Core.List.{List}
use Prim.Native.Nat.{ℕ, ◌+◌, ◌-◌, ◌≤◌, ◌<◌}
use native.Mathlib.Omega.{arith}
use lib.IntN.{ℤ, pos}
use lib.ListN.{length, get_or, take, drop, length-drop}
use lib.Seq.{get_or-take, get_or-drop, length-take-le}
use mir.Facts.{to_z-of_z}
use Rattle.rules.specs.Lists.{up_to}
use Rattle.rules.specs.Triangle.{average_of}
use Rattle.laws.proofs.Joined.{first_more}
use Rattle.laws.proofs.Signed.{held, size_fits}
use Rattle.triangle.specs.Columns.{Increments}
use Rattle.history_averages.proofs.fill_year.Goals as goal

-- an increment of a part of the cells, as it is read
read : (p : List ℤ) (at e j : ℕ) → Increments p → at + j < e → held (get_or (take (e - at) (drop at p)) j (pos 0)) ≡ get_or p (at + j) (pos 0)
read p at e j amounts h =
    let is : get_or (take (e - at) (drop at p)) j (pos 0) ≡ get_or p (at + j) (pos 0) = get_or-take (e - at) (drop at p) j (pos 0) (omega arith) ∙ get_or-drop at p j (pos 0) in
    rw is (to_z-of_z (size_fits (get_or p (at + j) (pos 0)) (omega (arith, amounts (at + j)))))

part_long : (p : List ℤ) (at n : ℕ) → at + n ≤ length p → length (take (at + n - at) (drop at p)) ≡ n
part_long p at n h =
    let e : at + n - at ≡ n = omega arith in
    rw e (length-take-le n (drop at p) (omega (arith, length-drop at p)))

pub loop-j-init : goal.loop-j-init
unfolding up_to
loop-j-init c = refl

pub average-requires : goal.average-requires
average-requires c =
    let long = part_long c.args.cells.now c.args.at c.args.count c.requires.1.0 in
    (rw (read c.args.cells.now c.args.at (c.args.at + c.args.count) c.loop-j.j c.requires.1.1.0 (omega arith)) (c.requires.1.1.0 _), c.requires.1.1.1)

pub loop-j-preserved : goal.loop-j-preserved
loop-j-preserved c =
    let long = part_long c.args.cells.now c.args.at c.args.count c.requires.1.0 in
    let kept = to_z-of_z (size_fits c.average.result (omega (arith, c.average.ensures.1))) in
    rw (kept, c.average.ensures.0, read c.args.cells.now c.args.at (c.args.at + c.args.count) c.loop-j.j c.requires.1.1.0 (omega arith), c.loop-j.invariant)
    (first_more (λ r. average_of (get_or c.args.cells.now (c.args.at + r) (pos 0)) c.args.claims) c.args.row.now c.loop-j.j)

pub returns : goal.returns
returns c =
    let long = part_long c.args.cells.now c.args.at c.args.count c.requires.1.0 in
    let e : c.loop-j.j ≡ c.args.count = omega arith in
    rw e at c.loop-j.invariant
