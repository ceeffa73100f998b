-- The entries are those of the separation. Assumes nothing.
use borrow.Author.Rules.{rules}
use mathlib.Core.Path.{◌≡◌}
use mathlib.Core.List.{List}
use native.Mathlib.Omega.{arith}
use lib.IntN.{ℤ}
use Rattle.rules.specs.History.{separation_entries}
use Rattle.totals.specs.Squares.{cut_of}
use Rattle.positions.proofs.Sizes.{answer_most, factors_small}
use Rattle.positions.proofs.put_position.Statement.{statement}
use Rattle.positions.proofs.put_position.Tie as tie

separate-requires : tie.Need-separate-found-requires
separate-requires c κs = search rules

add-put-factors : tie.Need-overflow_add-k
add-put-factors c = search rules

-- the square
abbrev square : tie.Start → List (List ℤ)
square s = cut_of s.args.rows.now s.args.first s.args.k

put-factors-requires : tie.Need-put_factors-requires
put-factors-requires c κs =
    let found = c.before.before.before.separate-found in
    let s = c.before.before.before.before in
    let q = square s in
    let both = factors_small q s.args.k in
    ((omega arith, omega arith), rw (found.ensures.0, found.ensures.1) (omega (arith, answer_most q s.args.k), (λ i. omega (arith, both.0 i, both.1 i), λ i. omega (arith, both.0 i, both.1 i))))

same_length : tie.Need-shape_of-out
same_length c = search rules

returns : tie.Need-returns
unfolding separation_entries
returns c =
    let found = c.before.before.before.before.before.separate-found in
    (c.before.put_factors.ensures.0, rw (found.ensures.0, found.ensures.1) at c.before.put_factors.ensures.1)

pub put_position_spec : {M : Type 1} → statement M
put_position_spec = tie.close (tie.spec separate-requires add-put-factors put-factors-requires same_length returns)
