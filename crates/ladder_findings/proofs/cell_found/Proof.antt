-- The row is one of the years 0 to k and the years past the diagonal are fewer than it has (Within), so that the cell is one of its row. Assumes nothing.
use borrow.Author.Rules.{rules}
use native.Mathlib.Nat.{mul-le-mul}
use native.Mathlib.Omega.{arith}
use mathlib.Core.Path.{◌∙◌}
use Prim.Native.Nat.{ℕ, ◌+◌, ◌-◌, ◌*◌, ◌≤◌, ◌<◌}
use lib.ListN.{get_or}
use Rattle.rules.specs.Triangle.{most_cumulative}
use Rattle.rules.specs.Ladder.{most_factor}
use Rattle.ladder_findings.proofs.Within.{named_row, years_within_lem, cell_is}
use Rattle.ladder_findings.proofs.cell_found.Statement.{statement}
use Rattle.ladder_findings.proofs.cell_found.Tie as tie

row : (c : tie.After-first_row-i) → c.first_row-i.result ≤ c.before.args.k
row c =
    let s = c.before in
    omega (arith, c.first_row-i.ensures, named_row s.args.k s.args.paid.now s.args.factors.now s.requires.1)

walk-row-requires : tie.Need-walk_row-past-requires
walk-row-requires c κs = (c.before.requires.0, row c)

-- the years past the diagonal
years : (c : tie.After-walk_row-past) → c.walk_row-past.result.years < c.before.first_row-i.result
years c =
    let s = c.before.before in
    let within = years_within_lem s.args.k s.args.paid.now s.args.factors.now s.requires.1 in
    let i = c.before.first_row-i.ensures in
    rw (c.walk_row-past.ensures.years, i) within

-- the cell
column : (c : tie.After-walk_row-past) → c.before.before.args.k - c.before.first_row-i.result + c.walk_row-past.result.years < 15
column c = omega (arith, row c.before, years c, c.before.before.requires.0.few)

product : (c : tie.After-walk_row-past) → (h : ℕ) → c.walk_row-past.result.last * get_or c.before.before.args.factors.now h 0 ≤ most_cumulative * most_factor
product c h = mul-le-mul c.walk_row-past.ensures.most (c.before.before.requires.0.factors h)

abbrev walk1 : tie.After-struct_known-1 → tie.After-walk_row-past
walk1 c = c.before

abbrev walk2 : tie.After-struct_known-2-1 → tie.After-walk_row-past
walk2 c = c.before.before.before.before

mul-of-naturals : tie.Need-overflow_mul-past
mul-of-naturals c =
    let w = walk2 c in
    let h = w.before.before.args.k - w.before.first_row-i.result + w.walk_row-past.result.years in
    omega (arith, product w h)

of-naturals-requires : tie.Need-of_naturals-requires
of-naturals-requires c κs =
    let w = walk2 c in
    let h = w.before.before.args.k - w.before.first_row-i.result + w.walk_row-past.result.years in
    (omega (arith, w.walk_row-past.ensures.most), (omega (arith, w.before.before.requires.0.factors h), omega (arith, product w h)))

returns : tie.Need-returns
returns c =
    let w = walk2 c.before in
    let s = w.before.before in
    let walked = w.walk_row-past.ensures in
    let made = c.of_naturals.ensures in
    let same = cell_is s.args.k s.args.paid.now s.args.factors.now _ _ _ w.before.first_row-i.ensures walked.years walked.last in
    (made ∙ same, (rw made (omega (arith, row w.before, s.requires.0.few)), rw made (omega (arith, column w))))

pub cell_found_spec : {M : Type 1} → statement M
cell_found_spec =
    tie.close
    (tie.spec
    (λ c κs. search rules)
    walk-row-requires
    (λ c. row c.before)
    (λ c. omega (arith, column (walk1 c)))
    (λ c. omega (arith, column (walk1 c)))
    (λ c. omega (arith, column (walk1 c.before)))
    (λ c. omega (arith, column c.before.before.before))
    mul-of-naturals
    of-naturals-requires
    returns)
