-- The size of the step's first entry. Assumes nothing.
use mir.Syntax.{w64}
use mathlib.Core.Path.{ap, ◌∙◌}
use lib.IntN.{nat_abs}
use mir.Facts.{to_z-of_z}
use borrow.Author.Rules.{rules, sfits_of}
use Rattle.hindsight_places.specs.Places.{mark_at}
use Rattle.hindsight_places.proofs.mark_of.Statement.{statement}
use Rattle.hindsight_places.proofs.mark_of.Tie as tie

returns : tie.Need-returns
unfolding mark_at
returns c = c.size_of.ensures ∙ ap nat_abs (to_z-of_z {w = w64} (sfits_of c.before.step_entry.type_inv) ∙ c.before.step_entry.ensures)

pub mark_of_spec : {M : Type 1} → statement M
mark_of_spec =
    tie.close
    (tie.spec
    (λ c κs. search rules)
    (λ c κs. search rules)
    returns)
