-- The base, the developed sum and the factor of the first year of which question 13 says no. Assumes nothing.
use native.Mathlib.Omega.{arith}
use Prim.Native.Nat.{ℕ, ◌+◌, ◌*◌, ◌≤◌}
use lib.ListN.{get_or}
use Rattle.rules.specs.Triangle.{most_cumulative}
use Rattle.ladder.specs.Columns.{developed_in, base_in}
use Rattle.development_findings.proofs.Development.{held_found}
use borrow.Author.Rules.{rules}
use Rattle.development_findings.proofs.development_found.Statement.{statement}
use Rattle.development_findings.proofs.development_found.Tie as tie

first-refused-requires : tie.Need-first_refused-h-requires
first-refused-requires c κs = search rules

mul-base : tie.Need-offset_bounds-columns-h
mul-base c = search rules

element-copy-out-base : tie.Need-bounds-columns-h
element-copy-out-base c = search rules

sub-base : tie.Need-overflow_sub-base
sub-base c = search rules

mul-base-2 : tie.Need-offset_bounds-paid-k
mul-base-2 c = search rules

element-copy-out-base-2 : tie.Need-bounds-paid-k
element-copy-out-base-2 c = search rules

sub-base-2 : tie.Need-overflow_sub-base-2
sub-base-2 c =
    let first = c.before.before.before.before.first_refused-h in
    c.before.before.before.before.before.requires.0.paid first.result first.ensures.1

add-developed : tie.Need-overflow_add-developed
add-developed c = search rules

mul-developed : tie.Need-offset_bounds-columns-h-2
mul-developed c = search rules

element-copy-out-developed : tie.Need-bounds-columns-h-2
element-copy-out-developed c = search rules

factor-of-requires : tie.Need-factor_of-factor-requires
factor-of-requires c κs = c.before.before.before.before.before.before.requires.0.columns (c.before.before.before.before.before.first_refused-h.result + 1)

cast-t19 : tie.Need-overflow_cast-result
cast-t19 c =
    let s = c.before.before.before.before.before.before.before in
    record { sfits = omega (arith, s.requires.0.columns c.before.before.before.before.before.before.first_refused-h.result) }

cast-t20 : tie.Need-overflow_cast-result-2
cast-t20 c =
    let s = c.before.before.before.before.before.before.before in
    record { sfits = omega (arith, s.requires.0.columns (c.before.before.before.before.before.before.first_refused-h.result + 1)) }

cast-t21 : tie.Need-overflow_cast-result-3
cast-t21 c =
    let s = c.before.before.before.before.before.before.before in
    record { sfits = omega (arith, c.factor_of-factor.ensures.1, s.requires.0.columns (c.before.before.before.before.before.before.first_refused-h.result + 1)) }

returns : tie.Need-returns
unfolding developed_in base_in
returns c =
    let s = c.before.before.before.before.before.before.before in
    let h = c.before.before.before.before.before.before.first_refused-h in
    let most : (i : ℕ) → get_or s.args.columns.now i 0 ≤ 16 * most_cumulative = s.requires.0.columns in (
      held_found (developed_in s.args.columns.now) (base_in s.args.k s.args.columns.now s.args.paid.now) s.args.k h.result c.factor_of-factor.result h.ensures.0
          (omega (arith, most h.result)) (most (h.result + 1)) c.factor_of-factor.ensures.0 c.factor_of-factor.ensures.1,
      (omega arith, omega (arith, h.ensures.1, s.requires.0.few)),
    )

pub development_found_spec : {M : Type 1} → statement M
development_found_spec =
    tie.close
    (tie.spec
    first-refused-requires
    mul-base
    element-copy-out-base
    sub-base
    mul-base-2
    element-copy-out-base-2
    sub-base-2
    add-developed
    mul-developed
    element-copy-out-developed
    factor-of-requires
    cast-t19
    cast-t20
    cast-t21
    returns)
