-- By the column; a mark and a sum fit 63 bits (mark_small, step_small). Assumes nothing.
use mathlib.Core.Path.{ap, ◌∙◌}
use Prim.Native.Nat.{◌+◌}
use native.Mathlib.Omega.{arith}
use lib.IntN.{pos}
use mir.Syntax.{w64}
use mir.ValLaws.{to_z_pos}
use borrow.Author.Rules.{rules}
use borrow.Author.Tests.{eq-eqb, ne_eqb}
use Rattle.hindsight_places.proofs.Small.{mark_small}
use Rattle.hindsight_steps.proofs.Small.{step_small}
use Rattle.hindsight_cells.specs.Cells.{step_value}
use Rattle.hindsight_cells.proofs.step_value.Statement.{statement}
use Rattle.hindsight_cells.proofs.step_value.Tie as tie

cast-result : tie.Need-overflow_cast-result
cast-result c =
    let s = c.before.before in
    record { sfits = omega (arith, c.mark_of.ensures, mark_small s.args.list.now s.requires.1.1 s.args.k (s.args.i + 1)) }

cast-result-2 : tie.Need-overflow_cast-result-else-j-n
cast-result-2 c =
    let s = c.before.before in
    record { sfits = omega (arith, c.step_sum.ensures, step_small s.args.list.now s.requires.1.1 s.args.k s.args.j (s.args.i + 1) (omega arith)) }

returns : tie.Need-returns-then-j-n
unfolding step_value
returns c =
    let s = c.before.before in
    rw (eq-eqb _ _ c.before.if-j-n.true) (to_z_pos w64 c.mark_of.result (omega (arith, c.mark_of.ensures, mark_small s.args.list.now s.requires.1.1 s.args.k (s.args.i + 1))) ∙ ap pos c.mark_of.ensures)

returns-2 : tie.Need-returns-else-j-n
unfolding step_value
returns-2 c =
    let s = c.before.before in
    rw (ne_eqb _ _ c.before.if-j-n.false) (to_z_pos w64 c.step_sum.result (omega (arith, c.step_sum.ensures, step_small s.args.list.now s.requires.1.1 s.args.k s.args.j (s.args.i + 1) (omega arith))) ∙ ap pos c.step_sum.ensures)

pub step_value_spec : {M : Type 1} → statement M
step_value_spec =
    tie.close
    (tie.spec
    (λ c. search rules)
    (λ c κs. search rules)
    cast-result
    (λ c. search rules)
    (λ c κs. search rules)
    cast-result-2
    returns
    returns-2)
