-- The loop's invariant: the widths of the first j columns are in the array (filled_more). Assumes nothing.
use mathlib.Core.Path.{◌≡◌}
use Prim.Native.Nat.{◌-◌, ◌≤◌}
use native.Mathlib.Omega.{arith}
use Rattle.rules.specs.Lists.{up_to, padded}
use Rattle.laws.proofs.Padded.{filled_none, filled_more}
use Rattle.column_width.specs.Width.{column_width}
use borrow.Author.Rules.{rules}
use Rattle.text_table.proofs.column_widths.Statement.{statement}
use Rattle.text_table.proofs.column_widths.Tie as tie

abbrev invariant-loop : tie.invariant-loop-j
invariant-loop words total shape values styles widths₀ n j₀ widths j =
    (j ≤ n) × (widths ≡ padded 20 0 (up_to (column_width words total shape values styles) j))

abbrev decreases-loop : tie.decreases-loop-j
decreases-loop words total shape values styles widths₀ n j₀ widths j = n - j

loop-holds : tie.Need-loop-j-init invariant-loop decreases-loop
loop-holds c =
    let a = c.before.before.args in
    (omega arith, filled_none 20 0 (column_width a.words.now a.total.now a.shape a.values.now a.styles.now))

width-of-requires : tie.Need-width_of-requires invariant-loop decreases-loop
width-of-requires c κs = (c.before.before.before.before.requires, omega arith)

mul-widths : tie.Need-offset_bounds-widths-j invariant-loop decreases-loop
mul-widths c = omega (arith, c.before.before.before.before.before.requires.columns_most)

array-write-widths : tie.Need-bounds-widths-j invariant-loop decreases-loop
array-write-widths c = omega (arith, c.before.before.before.before.before.requires.columns_most)

loop-again : tie.Need-loop-j-preserved invariant-loop decreases-loop
loop-again c =
    let a = c.before.before.before.before.before.args in
    let f = column_width a.words.now a.total.now a.shape a.values.now a.styles.now in
    let j = c.before.before.loop-j.j in
    (omega arith, rw (c.before.before.loop-j.invariant.1, c.width_of.ensures) (filled_more 20 0 f j (omega (arith, c.before.before.before.before.before.requires.columns_most))))

returns : tie.Need-returns invariant-loop decreases-loop
returns c =
    let e : c.before.loop-j.j ≡ c.before.before.before.before.args.shape.columns = omega arith in
    rw e at c.before.loop-j.invariant.1

pub column_widths_spec : {M : Type 1} → statement M
column_widths_spec =
    tie.close
    (tie.spec invariant-loop decreases-loop loop-holds width-of-requires mul-widths array-write-widths (λ c. search rules) (λ c. search rules) loop-again returns)
