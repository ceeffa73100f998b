-- The loop's invariant: the values of the years up to m are stored, three for each. Assumes nothing.
use mathlib.Core.Path.{◌≡◌, sym, ap, ◌∙◌}
use native.Mathlib.Omega.{arith}
use Prim.Native.Nat.{◌-◌, ◌≤◌}
use lib.ListN.{length}
use lib.Seq.{sets}
use Rattle.laws.proofs.Joined.{sets_append}
use Rattle.rest_years.specs.RestYears.{refused_years, all_values}
use Rattle.rest_years.proofs.Years.{no_years, values_next, rows_next, values_count, years_most}
use Rattle.rest_years.proofs.fill_values.Statement.{statement}
use Rattle.rest_years.proofs.fill_values.Tie as tie

abbrev invariant-loop : tie.invariant-loop-m
invariant-loop values₀ corners columns k rows₀ m₀ values rows m =
    (m ≤ k) × ((rows ≡ length (refused_years corners columns m)) × (values ≡ sets values₀ 0 (all_values corners columns m)))

abbrev decreases-loop : tie.decreases-loop-m
decreases-loop values₀ corners columns k rows₀ m₀ values rows m = k - m

loop-holds : tie.Need-loop-m-init invariant-loop decreases-loop
loop-holds c = let none = no_years c.args.corners.now c.args.columns.now in (omega arith, (sym none.1.1, rw none.1.0))

set-row-requires : tie.Need-set_row-rows-requires invariant-loop decreases-loop
set-row-requires c κs =
    let l = c.before.before.loop-m in
    let s = c.before.before.before in
    (omega (arith, l.invariant.1.0, years_most s.args.corners.now s.args.columns.now l.m), (omega arith, s.requires.1))

loop-again : tie.Need-loop-m-preserved invariant-loop decreases-loop
loop-again c =
    let l = c.before.before.before.loop-m in
    let s = c.before.before.before.before in
    let t = s.args.corners.now in
    let v = s.args.columns.now in
    let row = c.set_row-rows.ensures in (
      omega arith,
      (
        omega (arith, row.0, l.invariant.1.0, rows_next t v l.m),
        row.1 ∙ rw l.invariant.1.1 (sets_append (all_values t v l.m) _ _ 0 _ (omega (arith, l.invariant.1.0, values_count t v l.m))) ∙ ap (sets _ 0) (sym (values_next t v l.m)),
      ),
    )

returns : tie.Need-returns invariant-loop decreases-loop
returns c =
    let e : c.before.loop-m.m ≡ c.before.before.args.k = omega arith in
    rw e at c.before.loop-m.invariant.1

pub fill_values_spec : {M : Type 1} → statement M
fill_values_spec =
    tie.close
    (tie.spec
    invariant-loop
    decreases-loop
    loop-holds
    (λ c. omega arith)
    set-row-requires
    (λ c. omega arith)
    (λ c. omega arith)
    loop-again
    returns)
