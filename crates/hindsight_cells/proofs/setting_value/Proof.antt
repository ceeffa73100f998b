-- By the column; an index and a sum fit 63 bits (sum_small). Assumes nothing.
use mathlib.Core.Path.{ap, ◌∙◌}
use native.Mathlib.Omega.{arith}
use lib.IntN.{pos}
use lib.ListN.{get_or}
use mir.Syntax.{w64}
use mir.ValLaws.{to_z_pos}
use borrow.Author.Rules.{rules}
use borrow.Author.Tests.{eq-eqb, ne_eqb}
use Rattle.hindsight_places.proofs.Small.{sum_small}
use Rattle.hindsight_cells.specs.Cells.{setting_value}
use Rattle.hindsight_cells.proofs.setting_value.Statement.{statement}
use Rattle.hindsight_cells.proofs.setting_value.Tie as tie

cast-result-2 : tie.Need-overflow_cast-result-else-j-eq0
cast-result-2 c =
    let s = c.before.before in
    record { sfits = omega (arith, c.sum_of.ensures, sum_small s.args.list.now s.requires.1.1 s.args.k s.args.i) }

returns : tie.Need-returns-then-j-eq0
unfolding setting_value
returns c =
    let s = c.before.before.before in
    rw (eq-eqb _ _ c.before.before.if-j-eq0.true) (to_z_pos w64 (get_or s.args.settings.now s.args.i 0) (omega (arith, s.requires.1.0)))

returns-2 : tie.Need-returns-else-j-eq0
unfolding setting_value
returns-2 c =
    let s = c.before.before in
    rw (ne_eqb _ _ c.before.if-j-eq0.false) (to_z_pos w64 c.sum_of.result (omega (arith, c.sum_of.ensures, sum_small s.args.list.now s.requires.1.1 s.args.k s.args.i)) ∙ ap pos c.sum_of.ensures)

pub setting_value_spec : {M : Type 1} → statement M
setting_value_spec =
    tie.close
    (tie.spec
    (λ c. search rules)
    (λ c. search rules)
    (λ c. search rules)
    (λ c κs. search rules)
    cast-result-2
    returns
    returns-2)
