-- The loop's invariant: the cells of the rest are those from cell j on. Assumes nothing.
use mathlib.Core.Path.{◌≡◌, refl, sym, ap, ◌∙◌}
use mathlib.Core.List.{List, []}
use Prim.Native.Nat.{ℕ, ◌+◌, ◌-◌, ◌≤◌}
use native.Mathlib.Omega.{arith}
use lib.ListN.{get_or, drop}
use lib.Seq.{drop-drop, get_or-drop}
use Rattle.cells.specs.Cells.{cells_by}
use Rattle.cells.proofs.CellWalk.{walk_first, walk_rest, cells_are}
use borrow.Author.Rules.{rules}
use Rattle.cells.proofs.cell_at.Statement.{statement}
use Rattle.cells.proofs.cell_at.Tie as tie

abbrev invariant-loop : tie.invariant-loop-j
invariant-loop line i s rest₀ j₀ rest j = (j ≤ i) × (cells_by s rest ≡ drop j (cells_by s rest₀))

abbrev decreases-loop : tie.decreases-loop-j
decreases-loop line i s rest₀ j₀ rest j = i - j

loop-again : tie.Need-loop-j-preserved invariant-loop decreases-loop
loop-again c =
    let l = c.before.before.loop-j in
    let s = c.before.before.before.before.decider_of-s.result in
    let all = cells_by s c.before.before.before.cells_text-rest.result.now in
    (omega arith, ap (cells_by s) c.after_cell-next.ensures ∙ walk_rest s l.rest.now ∙ ap (drop 1) l.invariant.1 ∙ drop-drop 1 l.j all)

returns : tie.Need-returns invariant-loop decreases-loop
returns c =
    let l = c.before.before.loop-j in
    let a = c.before.before.before.before.before.before.args in
    let s = c.before.before.before.before.decider_of-s.result in
    let all = cells_by s c.before.before.before.cells_text-rest.result.now in
    let e : l.j + 0 ≡ a.i = omega arith in
    c.first_cell.ensures
    ∙ sym (walk_first s l.rest.now)
    ∙ ap (λ (l : List (List ℕ)). get_or l 0 []) l.invariant.1
    ∙ get_or-drop l.j all 0 []
    ∙ ap (λ (n : ℕ). get_or all n []) e
    ∙ ap (λ (l : List (List ℕ)). get_or l a.i []) (sym (cells_are a.line.now s _ c.before.before.before.before.decider_of-s.ensures c.before.before.before.cells_text-rest.ensures))

pub cell_at_spec : {M : Type 1} → statement M
cell_at_spec =
    tie.close
    (tie.spec
    invariant-loop
    decreases-loop
    (λ c κs. search rules)
    (λ c κs. search rules)
    (λ c. (omega arith, refl))
    (λ c κs. search rules)
    (λ c. search rules)
    (λ c. search rules)
    loop-again
    (λ c κs. search rules)
    returns)
