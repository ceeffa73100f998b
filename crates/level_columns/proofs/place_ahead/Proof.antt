-- One column after the other. Assumes nothing.
use native.Mathlib.Omega.{arith}
use mathlib.Core.Path.{refl}
use Rattle.listing.specs.Starts.{starts_of}
use Rattle.figure_places.specs.Places.{added_at}
use Rattle.page_figures.proofs.Numbers.{numbers}
use Rattle.column_table.proofs.Places.{standing}
use Rattle.level_columns.specs.LevelColumns.{placed_future}
use borrow.Author.Rules.{rules}
use Rattle.level_columns.proofs.place_ahead.Statement.{statement}
use Rattle.level_columns.proofs.place_ahead.Tie as tie

place-column-requires : tie.Need-place_column-requires
place-column-requires c κs =
    let s = c.before.before.before.before in
    let k = s.args.k in
    let here = standing k s.requires in
    let there = numbers (added_at k) (starts_of k) k s.requires refl refl in
    rw c.before.before.added_at-a.ensures (omega arith, (omega arith, (omega arith, λ m h. omega arith)))

place-column-requires-2 : tie.Need-place_column-requires-2
place-column-requires-2 c κs =
    let s = c.before.before.before.before.before.before.before in
    let k = s.args.k in
    let here = standing k s.requires in
    let there = numbers (added_at k) (starts_of k) k s.requires refl refl in
    rw c.before.before.before.before.before.before.starts_of-s.ensures (omega arith, (omega arith, (omega arith, λ m h. omega arith)))

add-place-column-2 : tie.Need-overflow_add-a
add-place-column-2 c =
    let s = c.before.before.before.before.before.before.before.before.before.before.before in
    let k = s.args.k in
    let there = numbers (added_at k) (starts_of k) k s.requires refl refl in
    rw c.before.before.before.before.before.before.before.before.before.added_at-a.ensures (omega arith)

place-column-requires-3 : tie.Need-place_column-requires-3
place-column-requires-3 c κs =
    let s = c.before.before.before.before.before.before.before.before.before.before.before in
    let k = s.args.k in
    let here = standing k s.requires in
    let there = numbers (added_at k) (starts_of k) k s.requires refl refl in
    rw c.before.before.before.before.before.before.before.before.before.added_at-a.ensures (omega arith, (omega arith, (omega arith, λ m h. omega arith)))

place-column-requires-4 : tie.Need-place_column-requires-4
place-column-requires-4 c κs =
    let s = c.before.before.before.before.before.before.before.before.before.before.before.before.before.before in
    let k = s.args.k in
    let here = standing k s.requires in
    let there = numbers (added_at k) (starts_of k) k s.requires refl refl in
    rw c.before.before.before.before.before.before.before.before.before.before.before.before.added_at-a.ensures (omega arith, (omega arith, (omega arith, λ m h. omega arith)))

returns : tie.Need-returns
unfolding placed_future
returns c =
    let q = c.before.before.before in
    let p = c.before.before.before.before.before.before.before in
    let o = c.before.before.before.before.before.before.before.before.before.before in
    rw (
      q.place_column-3.ensures.0,
      q.place_column-3.ensures.1,
      p.place_column-2.ensures.0,
      p.place_column-2.ensures.1,
      o.place_column.ensures.0,
      o.place_column.ensures.1,
      c.before.before.before.before.before.before.before.before.before.before.before.before.before.before.starts_of-s.ensures,
      c.before.before.before.before.before.before.before.before.before.before.before.before.before.added_at-a.ensures,
    ) at c.place_column-4.ensures

pub place_ahead_spec : {M : Type 1} → statement M
place_ahead_spec =
    tie.close
    (tie.spec
    (λ c κs. search rules)
    (λ c κs. search rules)
    (λ c. search rules)
    place-column-requires
    place-column-requires-2
    add-place-column-2
    place-column-requires-3
    (λ c. search rules)
    place-column-requires-4
    returns)
