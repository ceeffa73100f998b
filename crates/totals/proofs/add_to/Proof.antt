-- A total and a cell are far from wrapping. Assumes nothing.
use mathlib.Core.Path.{◌≡◌, ap, ap₂, ◌∙◌}
use Prim.Native.Nat.{◌+◌}
use native.Mathlib.Omega.{arith}
use borrow.Author.Rules.{rules}
use lib.IntN.{ℤ, pos, ◌+ℤ◌}
use lib.ListN.{get_or, set}
use mir.Syntax.{w64}
use mir.Val.{SFits}
use mir.Facts.{to_z-of_z}
use Rattle.laws.proofs.Signed.{held, size_fits, sum_size_lem}
use Rattle.totals.proofs.add_to.Statement.{statement}
use Rattle.totals.proofs.add_to.Tie as tie

mul-totals : tie.Need-offset_bounds-totals-at
mul-totals c = search rules

element-copy-out-totals : tie.Need-bounds-totals-at
element-copy-out-totals c = search rules

-- the total that was, and with the cell
abbrev was : tie.After-totals-1 → ℤ
was c = get_or c.before.args.totals.now c.before.args.at (pos 0)

kept : (c : tie.After-totals-1) → held (was c) +ℤ held c.before.args.cell ≡ was c +ℤ c.before.args.cell
kept c =
    ap₂ (λ (x y : ℤ). x +ℤ y) (to_z-of_z (size_fits (was c) (omega (arith, c.before.requires.1.1 c.before.args.at)))) (to_z-of_z (size_fits c.before.args.cell (omega (arith, c.before.requires.1.0))))

fits : (c : tie.After-totals-1) → SFits w64 (was c +ℤ c.before.args.cell)
fits c = size_fits _ (omega (arith, sum_size_lem (was c) c.before.args.cell, c.before.requires.1.0, c.before.requires.1.1 c.before.args.at))

add-totals : tie.Need-overflow_add-totals
add-totals c = rw (kept c) (fits c)

element-set-from-totals : tie.Need-bounds-totals-at-2
element-set-from-totals c = search rules

returns : tie.Need-returns
returns c = ap (set c.before.args.totals.now c.before.args.at) (ap held (kept c) ∙ to_z-of_z (fits c))

pub add_to_spec : {M : Type 1} → statement M
add_to_spec =
    tie.close
    (tie.spec mul-totals element-copy-out-totals add-totals element-set-from-totals returns)
