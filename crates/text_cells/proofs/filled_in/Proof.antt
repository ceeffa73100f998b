-- The loop's invariant: the first j cells are looked at (filled_more). Assumes nothing.
use mathlib.Core.Path.{◌≡◌, ap, ◌∙◌}
use mathlib.Core.Bool.{cond}
use Prim.Native.Nat.{ℕ, ◌+◌, ◌-◌, ◌≤◌}
use native.Mathlib.Omega.{arith}
use lib.Dec.{eqb}
use lib.ListN.{get_or}
use Rattle.text_cells.specs.Cells.{filled}
use Rattle.text_cells.proofs.Filled.{filled_none, filled_more}
use borrow.Author.Rules.{rules}
use Rattle.text_cells.proofs.filled_in.Statement.{statement}
use Rattle.text_cells.proofs.filled_in.Tie as tie

abbrev invariant-loop : tie.invariant-loop-j
invariant-loop styles p n last₀ j₀ last j = (j ≤ n) × (last ≡ filled styles p j)

abbrev decreases-loop : tie.decreases-loop-j
decreases-loop styles p n last₀ j₀ last j = n - j

loop-holds : tie.Need-loop-j-init invariant-loop decreases-loop
loop-holds c = (omega arith, filled_none c.args.styles.now c.args.p)

loop-again : tie.Need-loop-j-preserved invariant-loop decreases-loop
loop-again c =
    let a = c.before.before.before.before.before.args in
    let j = c.before.before.before.before.loop-j.j in
    (omega arith, c.filled_after-last.ensures ∙ ap (λ (l : ℕ). cond (eqb (get_or a.styles.now (a.p + j) 0) 0) l (j + 1)) c.before.before.before.before.loop-j.invariant.1 ∙ filled_more a.styles.now a.p j)

returns : tie.Need-returns invariant-loop decreases-loop
returns c =
    let e : c.before.loop-j.j ≡ c.before.before.args.n = omega arith in
    rw e at c.before.loop-j.invariant.1

pub filled_in_spec : {M : Type 1} → statement M
filled_in_spec =
    tie.close
    (tie.spec invariant-loop decreases-loop loop-holds (λ c. search rules) (λ c. search rules) (λ c κs. search rules) (λ c. search rules) (λ c. search rules) loop-again returns)
