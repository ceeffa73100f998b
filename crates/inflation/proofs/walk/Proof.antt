-- The invariant: the path is that of n years, their indices are stored, and each is in its range. Assumes nothing.
use mathlib.Core.Path.{◌≡◌, refl, ◌∙◌}
use mathlib.Core.Bool.{true}
use Prim.Native.Nat.{◌-◌, ◌≤◌}
use native.Mathlib.Omega.{arith}
use borrow.Author.Rules.{rules}
use lib.Ieee.{of_bits}
use Rattle.rules.specs.Lists.{up_to, below, padded, every}
use Rattle.laws.proofs.Padded.{filled_none, filled_more}
use Rattle.rules.specs.Inflation.{most_years, state_after, index_after}
use Rattle.entries.proofs.Leading.{leading_all, leading_stop}
use Rattle.inflation.specs.Walk.{is_index_at, years_within}
use Rattle.inflation_index.specs.Index.{if_an_index}
use Rattle.inflation_index.proofs.Index.{leaves, lies_in}
use Rattle.inflation.proofs.Years.{year_index, below_more}
use Rattle.inflation.proofs.walk.Statement.{statement}
use Rattle.inflation.proofs.walk.Tie as tie

abbrev invariant-loop : tie.invariant-loop-n
invariant-loop shape years values₀ path₀ n₀ values path n =
    (n ≤ years)
    × ((path ≡ state_after shape n)
    × ((every (is_index_at shape) (below n) ≡ true) × (values ≡ padded most_years 0 (up_to (index_after shape) n))))

abbrev decreases-loop : tie.decreases-loop-n
decreases-loop shape years values₀ path₀ n₀ values path n = years - n

path-start-requires : tie.Need-path_start-path-requires invariant-loop decreases-loop
path-start-requires c κs = search rules

loop-holds : tie.Need-loop-n-init invariant-loop decreases-loop
unfolding every up_to
loop-holds c = (omega arith, (c.path_start-path.ensures, (refl, c.before.requires.1 ∙ filled_none most_years 0 (index_after c.before.args.shape))))

path-next-requires : tie.Need-path_next-path-requires invariant-loop decreases-loop
path-next-requires c κs = (omega arith, c.before.loop-n.invariant.1.0)

index-of-requires : tie.Need-index_of-index-requires invariant-loop decreases-loop
index-of-requires c κs = search rules

-- what the year's index says
this-year : (c : tie.After-index_of-index invariant-loop decreases-loop) → c.index_of-index.result ≡ if_an_index (index_after c.before.before.before.before.before.before.args.shape c.before.before.before.before.loop-n.n)
unfolding of_bits
this-year c =
    year_index c.before.before.before.before.before.before.args.shape c.before.before.before.before.loop-n.n c.before.before.path_next-path.result c.index_of-index.result c.before.before.path_next-path.ensures c.index_of-index.ensures

returns : tie.Need-returns-then-index-eq0 invariant-loop decreases-loop
unfolding years_within
returns c =
    let s = c.before.before.before.before.before.before.before.args in
    let l = c.before.before.before.before.before.loop-n in
    let stop = leading_stop (is_index_at s.shape) s.years l.n (omega arith) l.invariant.1.1.0 (leaves _ _ (this-year c.before) c.if-index-eq0.true) in
    rw stop (refl, l.invariant.1.1.1)

mul-values : tie.Need-offset_bounds-values-n invariant-loop decreases-loop
mul-values c = omega arith

element-write-values : tie.Need-bounds-values-n invariant-loop decreases-loop
element-write-values c = omega arith

add-n : tie.Need-overflow_step-n invariant-loop decreases-loop
add-n c = omega arith

loop-less : tie.Need-loop-n-smaller invariant-loop decreases-loop
loop-less c = omega arith

loop-again : tie.Need-loop-n-preserved invariant-loop decreases-loop
loop-again c =
    let s = c.before.before.before.before.before.before.before.before.args in
    let l = c.before.before.before.before.before.before.loop-n in
    let y = lies_in _ _ (this-year c.before.before) c.before.if-index-eq0.false in (
      omega arith,
      (
        c.before.before.before.before.path_next-path.ensures,
        (
          below_more (is_index_at s.shape) l.n l.invariant.1.1.0 y.0,
          rw (l.invariant.1.1.1, y.1) (filled_more most_years 0 (index_after s.shape) l.n (omega arith)),
        ),
      ),
    )

returns-2 : tie.Need-returns invariant-loop decreases-loop
unfolding years_within
returns-2 c =
    let l = c.before.loop-n in
    let e : l.n ≡ c.before.before.before.args.years = omega arith in
    rw (leading_all (is_index_at c.before.before.before.args.shape) _ (rw e at l.invariant.1.1.0)) (refl, rw e at l.invariant.1.1.1)

pub walk_spec : {M : Type 1} → statement M
walk_spec =
    tie.close
    (tie.spec
    invariant-loop
    decreases-loop
    path-start-requires
    loop-holds
    path-next-requires
    index-of-requires
    returns
    mul-values
    element-write-values
    add-n
    loop-less
    loop-again
    returns-2)
