-- The size of the position's first entry. Assumes nothing.
use mir.Syntax.{w64}
use mathlib.Core.Path.{ap, ◌∙◌}
use lib.IntN.{nat_abs}
use mir.Facts.{to_z-of_z}
use borrow.Author.Rules.{rules, sfits_of}
use Rattle.history_places.specs.Places.{number_of}
use Rattle.history_places.proofs.number_of.Statement.{statement}
use Rattle.history_places.proofs.number_of.Tie as tie

returns : tie.Need-returns
unfolding number_of
returns c = c.size_of.ensures ∙ ap nat_abs (to_z-of_z {w = w64} (sfits_of c.before.entry_of.type_inv) ∙ c.before.entry_of.ensures)

pub number_of_spec : {M : Type 1} → statement M
number_of_spec =
    tie.close
    (tie.spec
    (λ c κs. search rules)
    (λ c κs. search rules)
    returns)
