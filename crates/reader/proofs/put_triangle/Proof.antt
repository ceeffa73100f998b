-- The three runs of entries follow one another (sets_append). Assumes nothing.
use borrow.Author.Rules.{rules}
use native.Mathlib.Omega.{arith}
use mathlib.Core.Path.{◌≡◌}
use mathlib.Core.List.{map}
use Prim.Native.Nat.{◌+◌}
use lib.IntN.{pos}
use lib.ListN.{length, set, take}
use Rattle.laws.proofs.Joined.{sets_append}
use Rattle.rules.specs.Record.{cells}
use Rattle.entries.proofs.Runs.{length_naturals}
use Rattle.reader.specs.Fields.{triangle_fields}
use Rattle.reader.proofs.put_triangle.Statement.{statement}
use Rattle.reader.proofs.put_triangle.Tie as tie

put-natural-requires : tie.Need-put_natural-a-requires
put-natural-requires c κs = search rules

add-put-naturals : tie.Need-overflow_add-k
add-put-naturals c = search rules

put-naturals-requires : tie.Need-put_naturals-b-requires
put-naturals-requires c κs = (search rules, (search rules, λ i h. c.before.before.before.before.before.requires.1.0 i))

cells-of-requires : tie.Need-cells_of-requires
cells-of-requires c κs = search rules

put-integers-requires : tie.Need-put_integers-requires
put-integers-requires c κs = search rules

same_length : tie.Need-shape_of-list
same_length c = search rules

returns : tie.Need-returns
unfolding triangle_fields
returns c =
    let a = c.before.before.before.before.before.before.before.before.before.before.before.before.args in
    let natural = c.before.before.before.before.before.before.before.before.before.before.put_natural-a in
    let naturals = c.before.before.before.before.before.before.put_naturals-b in
    let n = a.k + 1 in
    let long : length a.exposures.now ≡ 16 = search rules in
    let front = map pos (take n a.exposures.now) in
    let size : length front ≡ n = length_naturals n a.exposures.now (omega arith) in (
      search rules,
      rw (c.before.put_integers.ensures.1, naturals.ensures.1, natural.ensures.1, naturals.ensures.0, natural.ensures.0, c.before.before.cells_of.ensures.0)
          (sets_append front (take (cells a.k) a.increments.now) (set a.list.now 0 (pos a.k)) 1 (1 + n) (omega arith)),
    )

pub put_triangle_spec : {M : Type 1} → statement M
put_triangle_spec =
    tie.close
    (tie.spec
    put-natural-requires
    add-put-naturals
    put-naturals-requires
    cells-of-requires
    put-integers-requires
    same_length
    returns)
