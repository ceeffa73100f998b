-- The step's entries stand in the report (step_entry_inside). Assumes nothing.
use mir.Syntax.{w64}
use mathlib.Core.Path.{◌∙◌}
use native.Mathlib.Omega.{arith}
use mir.Facts.{to_z-of_z}
use borrow.Author.Rules.{rules, sfits_of}
use Rattle.hindsight_places.specs.Places.{step_entry}
use Rattle.hindsight_places.proofs.Inside.{step_inside, count_most, step_entry_inside}
use Rattle.hindsight_places.proofs.step_entry.Statement.{statement}
use Rattle.hindsight_places.proofs.step_entry.Tie as tie

add-entry-of : tie.Need-overflow_add-step_start
add-entry-of c =
    let s = c.before in
    record { fits = omega (arith, c.step_start.ensures, step_inside s.args.k s.args.h s.args.e s.requires.1.0 s.requires.1.1, count_most s.args.k (omega arith)) }

entry-of-requires : tie.Need-entry_of-requires
entry-of-requires c κs =
    let s = c.before in
    (s.requires.1.0.0, rw c.step_start.ensures (step_entry_inside s.args.k s.args.a s.args.h s.args.e s.requires.1.0 s.requires.0 s.requires.1.1))

returns : tie.Need-returns
unfolding step_entry
returns c = to_z-of_z {w = w64} (sfits_of c.entry_of.type_inv) ∙ (rw c.before.step_start.ensures at c.entry_of.ensures)

pub step_entry_spec : {M : Type 1} → statement M
step_entry_spec =
    tie.close
    (tie.spec
    (λ c κs. search rules)
    add-entry-of
    entry-of-requires
    returns)
