-- The completed cumulatives follow the development factors, and the tail payments those (three_runs). Assumes nothing.
use borrow.Author.Rules.{rules}
use native.Mathlib.Omega.{arith}
use mathlib.Core.Path.{◌≡◌}
use mathlib.Core.List.{map, append-nil}
use Prim.Native.Nat.{◌+◌, ◌-◌}
use lib.IntN.{pos}
use lib.ListN.{length, take}
use Rattle.rules.specs.Record.{cells}
use Rattle.rules.specs.Lists.{joined}
use Rattle.rules.specs.Results.{ladder_sections, tail_sections}
use Rattle.entries.proofs.Runs.{length_naturals}
use Rattle.laws.proofs.TriangleRows.{cells_least}
use Rattle.listing.proofs.Sections.{future_cells_most, three_runs}
use Rattle.listing.proofs.put_last.Statement.{statement}
use Rattle.listing.proofs.put_last.Tie as tie

add-n : tie.Need-overflow_add-n
add-n c = search rules

put-naturals-requires : tie.Need-put_naturals-a-requires
put-naturals-requires c κs =
    let s = c.before.before in
    (omega arith, (omega (arith, cells_least s.args.k), λ i h. omega (arith, s.requires.1.1.0 i)))

cells-of-requires : tie.Need-cells_of-requires
cells-of-requires c κs = search rules

sub-put-naturals : tie.Need-overflow_sub-cells_of
sub-put-naturals c = omega (arith, cells_least c.before.before.before.before.before.before.before.args.k)

put-naturals-requires-2 : tie.Need-put_naturals-b-requires
put-naturals-requires-2 c κs =
    let s = c.before.before.before.before.before.before.before in
    let k = s.args.k in
    (omega (arith, future_cells_most k s.requires.0), (omega (arith, cells_least k), λ i h. omega (arith, s.requires.1.1.1.0 i)))

put-naturals-requires-3 : tie.Need-put_naturals-requires
put-naturals-requires-3 c κs =
    let s = c.before.before.before.before.before.before.before.before.before.before.before in
    (omega arith, (omega (arith, cells_least s.args.k), λ i h. omega (arith, s.requires.1.1.1.1 i)))

same_length : tie.Need-shape_of-out
same_length c = search rules

returns : tie.Need-returns
unfolding ladder_sections tail_sections joined
returns c =
    let last = c.before in
    let after-completed = last.before.before.before.before in
    let after-factors = after-completed.before.before.before.before.before in
    let s = after-factors.before.before.before in
    let k = s.args.k in
    let at = s.args.at in
    let factors = s.args.factors.now in
    let completed = s.args.completed.now in
    let n = cells k - (k + 1) in
    let a = map pos (take k factors) in
    let b = map pos (take n completed) in
    let d = map pos (take (k + 1) s.args.tails.now) in
    let first = after-factors.put_naturals-a in
    let second = after-completed.put_naturals-b in
    let size = after-completed.before.cells_of.ensures.0 in
    let sa : length a ≡ k = length_naturals k factors (omega (arith, after-factors.before.put_naturals-arg-2-1.given, s.requires.0)) in
    let sb : length b ≡ n = length_naturals n completed (omega (arith, after-completed.before.before.put_naturals-arg-4-1.given, future_cells_most k s.requires.0)) in
    let p : first.result ≡ at + length a = omega (arith, first.ensures.0) in
    let q : second.result ≡ first.result + length b = omega (arith, second.ensures.0, size) in (
      omega (arith, cells_least k, second.ensures.0, first.ensures.0, last.put_naturals.ensures.0),
      rw (last.put_naturals.ensures.1, second.ensures.1, first.ensures.1, size, append-nil d) (three_runs a b d s.args.out.now at p q),
    )

pub put_last_spec : {M : Type 1} → statement M
put_last_spec =
    tie.close
    (tie.spec
    add-n
    put-naturals-requires
    cells-of-requires
    sub-put-naturals
    put-naturals-requires-2
    put-naturals-requires-3
    same_length
    returns)
