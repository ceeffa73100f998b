-- The step's entry after the mark. Assumes nothing.
use mir.Syntax.{w64}
use mathlib.Core.Path.{◌∙◌}
use mir.Facts.{to_z-of_z}
use borrow.Author.Rules.{rules, sfits_of}
use Rattle.hindsight_places.specs.Places.{gap_at}
use Rattle.hindsight_places.proofs.gap_of.Statement.{statement}
use Rattle.hindsight_places.proofs.gap_of.Tie as tie

returns : tie.Need-returns
unfolding gap_at
returns c = to_z-of_z {w = w64} (sfits_of c.step_entry.type_inv) ∙ c.step_entry.ensures

pub gap_of_spec : {M : Type 1} → statement M
gap_of_spec =
    tie.close
    (tie.spec
    (λ c κs. search rules)
    returns)
