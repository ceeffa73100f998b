-- The loop's invariant: the first j columns are counted; each has at most 34 characters (column_most). Assumes nothing.
use mathlib.Core.Path.{◌≡◌, ap, ◌∙◌}
use Prim.Native.Nat.{ℕ, ◌+◌, ◌*◌, ◌-◌, ◌≤◌, max}
use native.Mathlib.Numerals.{add-one}
use native.Mathlib.Omega.{arith}
use lib.IntN.{ℤ}
use mathlib.Core.List.{List}
use Rattle.rules.specs.Lists.{total, up_to}
use Rattle.laws.proofs.Totals.{total_none, total_more}
use Rattle.table_cells.specs.Cells.{column_places}
use Rattle.table_cells.proofs.Lengths.{column_most}
use Rattle.table_width.specs.Width.{measure}
use borrow.Author.Rules.{rules}
use Rattle.table_width.proofs.measure_of.Statement.{statement}
use Rattle.table_width.proofs.measure_of.Tie as tie

-- what column j adds
abbrev added : List ℤ → List ℕ → ℕ → ℕ → ℕ → ℕ
added values styles columns n j = 2 + max 4 (column_places values styles columns n j)

abbrev invariant-loop : tie.invariant-loop-j
invariant-loop values styles columns n width₀ j₀ width j = (j ≤ columns) × (width ≡ 6 + total (up_to (added values styles columns n) j)) × (width ≤ 6 + 34 * j)

abbrev decreases-loop : tie.decreases-loop-j
decreases-loop values styles columns n width₀ j₀ width j = columns - j

loop-holds : tie.Need-loop-j-init invariant-loop decreases-loop
loop-holds c = (omega arith, omega (arith, total_none (added c.args.values.now c.args.styles.now c.args.columns c.args.n)), omega arith)

add-width : tie.Need-overflow_add-width invariant-loop decreases-loop
add-width c =
    let a = c.before.before.before.before.args in
    let e = c.larger.ensures ∙ ap (max 4) c.before.column_places.ensures in
    omega (arith, e, column_most a.values.now a.styles.now a.columns a.n c.before.before.before.loop-j.j)

add-width-2 : tie.Need-overflow_add-width-in-loop-j invariant-loop decreases-loop
add-width-2 c =
    let a = c.before.before.before.before.args in
    let e = c.larger.ensures ∙ ap (max 4) c.before.column_places.ensures in
    omega (arith, e, c.before.before.before.loop-j.invariant.2, column_most a.values.now a.styles.now a.columns a.n c.before.before.before.loop-j.j, c.before.before.before.before.requires.0)

loop-again : tie.Need-loop-j-preserved invariant-loop decreases-loop
loop-again c =
    let a = c.before.before.before.before.args in
    let f = added a.values.now a.styles.now a.columns a.n in
    let e = c.larger.ensures ∙ ap (max 4) c.before.column_places.ensures in (
      omega arith,
      rw (add-one c.before.before.before.loop-j.j) (omega (arith, e, c.before.before.before.loop-j.invariant.1, total_more f c.before.before.before.loop-j.j)),
      omega (arith, e, c.before.before.before.loop-j.invariant.2, column_most a.values.now a.styles.now a.columns a.n c.before.before.before.loop-j.j),
    )

returns : tie.Need-returns invariant-loop decreases-loop
unfolding measure
returns c =
    let e : c.before.loop-j.j ≡ c.before.before.args.columns = omega arith in
    rw e at c.before.loop-j.invariant.1

pub measure_of_spec : {M : Type 1} → statement M
measure_of_spec =
    tie.close
    (tie.spec invariant-loop decreases-loop loop-holds (λ c κs. search rules) (λ c κs. search rules) add-width add-width-2 (λ c. search rules) (λ c. search rules) loop-again returns)
