-- One section after another. Assumes nothing.
use Prim.Native.Nat.{ℕ, ◌+◌, ◌*◌, ◌≤◌}
use native.Mathlib.Omega.{arith}
use mathlib.Core.Path.{◌≡◌, refl}
use lib.ListN.{length}
use Rattle.rules.specs.Record.{cells}
use Rattle.rules.specs.Results.{result_count}
use Rattle.laws.proofs.TriangleRows.{cells_most}
use Rattle.listing.proofs.Counts.{results_count}
use Rattle.figure_places.specs.Places.{added_from, added_at}
use Rattle.figure_places.proofs.Known.{Known, places_known}
use Rattle.page_figures.specs.Shown.{with_assumptions}
use borrow.Author.Rules.{rules}
use Rattle.page_figures.proofs.fill_assumptions.Statement.{statement}
use Rattle.page_figures.proofs.fill_assumptions.Tie as tie

at-is : (s : tie.Start) → s.args.at ≡ added_at s.args.k
at-is s = s.requires.1.0

known : (s : tie.Start) → Known s.args.at s.args.k
known s = places_known s.args.at s.args.k (at-is s)

put-naturals-requires : tie.Need-put_naturals-requires
put-naturals-requires c κs =
    let s = c.before.before in
    let n = known s in
    let m = cells_most s.args.k s.requires.0 in
    (omega arith, (omega arith, λ i h. omega (arith, s.requires.1.1.0 i)))

put-naturals-requires-2 : tie.Need-put_naturals-requires-2
put-naturals-requires-2 c κs =
    let s = c.before.before.before.before.before in
    let n = known s in
    let m = cells_most s.args.k s.requires.0 in
    (omega arith, (omega arith, λ i h. omega (arith, s.requires.1.1.1.0 i)))

put-naturals-requires-3 : tie.Need-put_naturals-requires-3
put-naturals-requires-3 c κs =
    let s = c.before.before.before.before.before.before.before.before in
    let n = known s in
    let m = cells_most s.args.k s.requires.0 in
    (omega arith, (omega arith, λ i h. omega (arith, s.requires.1.1.1.1 i)))

returns : tie.Need-returns
unfolding with_assumptions
returns c =
    let s = c.before.before.before.before.before.before.before.before.before in
    let one = rw (at-is s) at c.before.before.before.before.before.before.put_naturals.ensures.1 in
    let two = rw (at-is s, one) at c.before.before.before.put_naturals-2.ensures.1 in
    rw (at-is s, two) at c.put_naturals-3.ensures.1

pub fill_assumptions_spec : {M : Type 1} → statement M
fill_assumptions_spec =
    tie.close (tie.spec (λ c. omega arith) put-naturals-requires put-naturals-requires-2 put-naturals-requires-3 returns)
