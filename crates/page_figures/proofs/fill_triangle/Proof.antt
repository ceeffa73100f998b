-- One section after another. Assumes nothing.
use Prim.Native.Nat.{ℕ, ◌+◌, ◌*◌, ◌≤◌}
use native.Mathlib.Omega.{arith}
use mathlib.Core.Path.{◌≡◌, refl}
use lib.ListN.{length}
use Rattle.rules.specs.Record.{cells}
use Rattle.rules.specs.Results.{result_count}
use Rattle.laws.proofs.TriangleRows.{cells_most}
use Rattle.listing.proofs.Counts.{results_count}
use Rattle.figure_places.specs.Places.{added_from, added_at}
use Rattle.figure_places.proofs.Known.{Known, places_known}
use Rattle.page_figures.specs.Shown.{result_figures, triangle_figures}
use borrow.Author.Rules.{rules}
use Rattle.page_figures.proofs.fill_triangle.Statement.{statement}
use Rattle.page_figures.proofs.fill_triangle.Tie as tie

at-is : (s : tie.Start) → s.args.at ≡ added_at s.args.k
at-is s = s.requires.1.0

known : (s : tie.Start) → Known s.args.at s.args.k
known s = places_known s.args.at s.args.k (at-is s)

put-integers-requires : tie.Need-put_integers-requires
put-integers-requires c κs =
    let s = c.before.before in
    let n = known s in
    let m = cells_most s.args.k s.requires.0 in
    (omega arith, omega arith)

put-naturals-requires : tie.Need-put_naturals-requires
put-naturals-requires c κs =
    let s = c.before.before.before.before.before in
    let n = known s in
    let m = cells_most s.args.k s.requires.0 in
    (omega arith, (omega arith, λ i h. omega (arith, s.requires.1.1.1 i)))

put-integers-requires-2 : tie.Need-put_integers-requires-2
put-integers-requires-2 c κs =
    let s = c.before.before.before.before.before.before.before.before.before in
    let n = known s in
    let m = cells_most s.args.k s.requires.0 in
    (omega (arith, c.cells_of.ensures.0), omega (arith, c.cells_of.ensures.0))

returns : tie.Need-returns
unfolding triangle_figures result_figures added_at added_from
returns c =
    let s = c.before.before.before.before.before.before.before.before.before.before in
    let one = rw (at-is s, s.requires.1.1.0) at c.before.before.before.before.before.before.before.put_integers.ensures.1 in
    let two = rw (at-is s, one) at c.before.before.before.before.put_naturals.ensures.1 in
    rw (at-is s, two, c.before.cells_of.ensures.0) at c.put_integers-2.ensures.1

pub fill_triangle_spec : {M : Type 1} → statement M
fill_triangle_spec =
    tie.close (tie.spec put-integers-requires (λ c. omega arith) put-naturals-requires (λ c κs. search rules) put-integers-requires-2 returns)
