-- One column after the other. Assumes nothing.
use native.Mathlib.Omega.{arith}
use mathlib.Core.Path.{refl}
use Rattle.listing.specs.Starts.{starts_of}
use Rattle.figure_places.specs.Places.{added_at}
use Rattle.page_figures.proofs.Numbers.{numbers}
use Rattle.column_table.proofs.Places.{standing}
use Rattle.level_columns.specs.LevelColumns.{placed_levels}
use borrow.Author.Rules.{rules}
use Rattle.level_columns.proofs.place_levels.Statement.{statement}
use Rattle.level_columns.proofs.place_levels.Tie as tie

place-column-requires : tie.Need-place_column-requires
place-column-requires c κs =
    let s = c.before.before.before.before in
    let k = s.args.k in
    let here = standing k s.requires in
    let there = numbers (added_at k) (starts_of k) k s.requires refl refl in
    rw c.before.before.before.starts_of-s.ensures (omega arith, (omega arith, (omega arith, λ m h. omega arith)))

place-column-requires-2 : tie.Need-place_column-requires-2
place-column-requires-2 c κs =
    let s = c.before.before.before.before.before.before.before in
    let k = s.args.k in
    let here = standing k s.requires in
    let there = numbers (added_at k) (starts_of k) k s.requires refl refl in
    rw c.before.before.before.before.before.added_at-a.ensures (omega arith, (omega arith, (omega arith, λ m h. omega arith)))

returns : tie.Need-returns
unfolding placed_levels
returns c =
    let p = c.before.before.before in
    rw (p.place_column.ensures.0, p.place_column.ensures.1, c.before.before.before.before.before.before.before.starts_of-s.ensures, c.before.before.before.before.before.before.added_at-a.ensures) at c.place_column-2.ensures

pub place_levels_spec : {M : Type 1} → statement M
place_levels_spec =
    tie.close
    (tie.spec
    (λ c κs. search rules)
    (λ c κs. search rules)
    (λ c. search rules)
    place-column-requires
    place-column-requires-2
    returns)
