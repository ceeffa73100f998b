-- A part of the list, entry by entry. Assumes nothing.
use mathlib.Core.Path.{◌≡◌, ap, ◌∙◌}
use Prim.Native.Nat.{ℕ, ◌+◌, ◌-◌}
use native.Mathlib.Omega.{arith}
use lib.IntN.{pos}
use lib.ListN.{take, drop}
use Rattle.rules.specs.History.{history_cells}
use Rattle.history_sheet.proofs.Lines.{cells_few}
use Rattle.history_parts.proofs.Split.{part_is}
use borrow.Author.Rules.{rules}
use Rattle.history_parts.specs.Parts.{increments_after}
use Rattle.history_parts.proofs.increments_of.Statement.{statement}
use Rattle.history_parts.proofs.increments_of.Tie as tie

add-end : tie.Need-overflow_add-end
add-end c = record { fits = omega (arith, c.cells_of.ensures, cells_few c.before.args.years c.before.requires.1) }

part-result-end : tie.Need-slice_bounds-result-end
part-result-end c = omega (arith, c.cells_of.ensures, cells_few c.before.args.years c.before.requires.1, c.before.requires.0)

returns : tie.Need-returns
unfolding increments_after
returns c =
    let s = c.before.before in
    let years = s.args.years in
    let l = s.args.list.now in
    let size : 2 + years + c.before.cells_of.result - (2 + years) ≡ history_cells years = omega (arith, c.before.cells_of.ensures) in
    ap (λ (n : ℕ). take n (drop (2 + years) l)) size
    ∙ part_is l (2 + years) (history_cells years) (pos 0) (omega (arith, cells_few years s.requires.1, s.requires.0))

pub increments_of_spec : {M : Type 1} → statement M
increments_of_spec =
    tie.close
    (tie.spec
    (λ c. search rules)
    (λ c κs. search rules)
    add-end
    (λ c. search rules)
    (λ c. search rules)
    (λ c. search rules)
    part-result-end
    returns)
