-- The diagonal, the sum of the shares and the level of the first year whose level is above S. Assumes nothing.
use native.Mathlib.Omega.{arith}
use Prim.Native.Nat.{◌+◌, ◌*◌, ◌≤◌, ◌<◌}
use lib.IntN.{pos}
use lib.ListN.{get_or, take}
use borrow.Author.Rules.{sfits_of}
use Rattle.rules.specs.Lists.{total}
use Rattle.laws.proofs.Lists.{total_most}
use Rattle.rules.specs.Separation.{billion}
use Rattle.factor_findings.proofs.Levels.{level_refused, held_found}
use borrow.Author.Rules.{rules}
use Rattle.factor_findings.proofs.level_found.Statement.{statement}
use Rattle.factor_findings.proofs.level_found.Tie as tie

first-level-requires : tie.Need-first_level-h-requires
first-level-requires c κs = search rules

-- the year is one of those up to k
year : (c : tie.After-first_level-h) → c.first_level-h.result < 16
year c =
    let s = c.before in
    omega (arith, c.first_level-h.ensures, (level_refused (λ h. get_or s.args.levels.now h 0) s.args.k s.requires.1.1.1).0, s.requires.0)

add-sum-of : tie.Need-overflow_add-h
add-sum-of c = record { fits = omega (arith, year c.before) }

sum-of-requires : tie.Need-sum_of-running-requires
sum-of-requires c κs =
    let s = c.before.before in
    let few = year c.before in
    (search rules, (omega arith, λ i l. omega (arith, s.requires.1.0 i)))

mul-t9 : tie.Need-offset_bounds-diagonals-h
mul-t9 c = record { fits = omega (arith, year c.before.before) }

element-copy-out-t12 : tie.Need-bounds-diagonals-h
element-copy-out-t12 c = year c.before.before

-- the sum of the shares is small
running_most : (c : tie.After-sum_of-running) → c.sum_of-running.result ≤ 16 * billion
running_most c =
    let s = c.before.before.before in
    let few = year c.before.before in
    omega (arith, c.sum_of-running.ensures, total_most billion s.args.shares.now s.requires.1.0 (c.before.before.first_level-h.result + 1))

cast-t13 : tie.Need-overflow_cast-result
cast-t13 c = record { sfits = omega (arith, running_most c.before) }

mul-t14 : tie.Need-offset_bounds-levels-h
mul-t14 c = record { fits = omega (arith, year c.before.before.before) }

element-copy-out-t17 : tie.Need-bounds-levels-h
element-copy-out-t17 c = year c.before.before.before.before

cast-t18 : tie.Need-overflow_cast-result-2
cast-t18 c = record { sfits = omega (arith, c.before.before.before.before.before.before.requires.1.1.0 c.before.before.before.before.before.first_level-h.result) }

returns : tie.Need-returns
returns c =
    let s = c.before.before.before.before.before.before in
    let h = c.before.before.before.before.before.first_level-h in
    let sum = c.before.before.before.sum_of-running in (
      held_found (λ h. get_or s.args.diagonals.now h (pos 0)) (λ h. total (take (h + 1) s.args.shares.now)) (λ h. get_or s.args.levels.now h 0) s.args.k h.result sum.result
          h.ensures (sfits_of c.before.before.result-1.given) sum.ensures (omega (arith, sum.ensures, running_most c.before.before.before)) (omega (arith, s.requires.1.1.0 h.result)),
      (year c.before.before.before.before.before, omega arith),
    )

pub level_found_spec : {M : Type 1} → statement M
level_found_spec =
    tie.close
    (tie.spec
    first-level-requires
    add-sum-of
    sum-of-requires
    mul-t9
    element-copy-out-t12
    cast-t13
    mul-t14
    element-copy-out-t17
    cast-t18
    returns)
