-- By the shape, the count, the form of each number and then the rates. Assumes nothing.
use mathlib.Core.Path.{◌≡◌, sym, ap, ◌∙◌}
use mathlib.Core.Bool.{false}
use mathlib.Core.List.{List}
use Prim.Native.Nat.{ℕ, ◌+◌, ◌-◌}
use native.Mathlib.Numerals.{add-one}
use native.Mathlib.Omega.{arith}
use lib.ListN.{length}
use Rattle.cells.specs.Cells.{cells_of}
use Rattle.inflation_line.specs.InflationLine.{shape_at, numbers_due, passing_numbers, fault}
use Rattle.inflation_line.proofs.Lines.{shape_cell, fault_shape, fault_count, fault_number, fault_rates}
use borrow.Author.Rules.{rules}
use Rattle.inflation_line.proofs.fault_in.Statement.{statement}
use Rattle.inflation_line.proofs.fault_in.Tie as tie

returns : tie.Need-returns-then-place-eq3
returns c = fault_shape _ _ (sym c.before.shape_at-place.ensures.0 ∙ c.if-place-eq3.true)

-- a line that names a shape
abbrev line : tie.After-cell_count-count → List ℕ
line n = n.before.before.before.before.args.line.now

named : (n : tie.After-cell_count-count) → shape_at (line n) ≡ 3 → ⊥
named n e = n.before.if-place-eq3.false (n.before.before.shape_at-place.ensures.0 ∙ e)

sub-t9 : tie.Need-overflow_sub-result
sub-t9 c = omega (arith, c.before.cell_count-count.ensures.0, shape_cell (line c.before) (named c.before))

returns-2 : tie.Need-returns-then-count-place
returns-2 c =
    let n = c.before in
    ap (λ (z : ℕ). fault 2 (z - 1)) n.cell_count-count.ensures.0
    ∙ fault_count _ (line n) (named n) (λ e. c.if-count-place.true (n.cell_count-count.ensures.0 ∙ e ∙ ap (λ (z : ℕ). z + 2) (sym n.before.before.shape_at-place.ensures.0)))

-- with as many numbers as the shape takes
counted : (e : tie.Else-count-place) → length (cells_of (line e.before)) ≡ shape_at (line e.before) + 2
counted e = sym e.before.cell_count-count.ensures.0 ∙ e.if-count-place.false ∙ ap (λ (z : ℕ). z + 2) e.before.before.before.shape_at-place.ensures.0

good : (p : tie.After-passing_numbers-good) → p.passing_numbers-good.result ≡ passing_numbers false p.before.before.before.before.before.before.args.years (line p.before.before) (numbers_due (shape_at (line p.before.before)))
good p =
    p.passing_numbers-good.ensures.0
    ∙ ap (passing_numbers false p.before.before.before.before.before.before.args.years (line p.before.before))
    (ap (λ (z : ℕ). z + 1) p.before.before.before.before.shape_at-place.ensures.0 ∙ add-one (shape_at (line p.before.before)))

returns-3 : tie.Need-returns-then-good-place
returns-3 c =
    let p = c.before in
    let n = p.before.before in
    fault_number _ (line n) (named n) (counted p.before) p.passing_numbers-good.result (good p) (omega (arith, c.if-good-place.true, n.before.before.shape_at-place.ensures.0))

returns-4 : tie.Need-returns
returns-4 c =
    let p = c.before.before in
    let n = p.before.before in
    let all : p.passing_numbers-good.result ≡ numbers_due (shape_at (line n)) = omega (arith, p.passing_numbers-good.ensures.1, c.before.if-good-place.false, n.before.before.shape_at-place.ensures.0) in
    c.rates_fault.ensures ∙ fault_rates _ (line n) (named n) (counted p.before) (sym (good p) ∙ all)

pub fault_in_spec : {M : Type 1} → statement M
fault_in_spec =
    tie.close
    (tie.spec
    (λ c κs. search rules)
    returns
    (λ c κs. search rules)
    (λ c. search rules)
    sub-t9
    returns-2
    (λ c. search rules)
    (λ c κs. search rules)
    (λ c. search rules)
    returns-3
    (λ c κs. search rules)
    returns-4)
