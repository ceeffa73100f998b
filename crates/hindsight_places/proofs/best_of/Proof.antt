-- The size of the entry after the settings (last_inside). Assumes nothing.
use mir.Syntax.{w64}
use mathlib.Core.Path.{ap, ◌∙◌}
use lib.IntN.{nat_abs}
use mir.Facts.{to_z-of_z}
use borrow.Author.Rules.{rules, sfits_of}
use Rattle.hindsight_places.specs.Places.{best_at}
use Rattle.hindsight_places.proofs.Inside.{last_inside}
use Rattle.hindsight_places.proofs.best_of.Statement.{statement}
use Rattle.hindsight_places.proofs.best_of.Tie as tie

entry-of-requires : tie.Need-entry_of-requires
entry-of-requires c κs = (c.requires.0, last_inside c.args.k c.args.n c.requires.0 c.requires.1)

returns : tie.Need-returns
unfolding best_at
returns c = c.size_of.ensures ∙ ap nat_abs (to_z-of_z {w = w64} (sfits_of c.before.entry_of.type_inv) ∙ c.before.entry_of.ensures)

pub best_of_spec : {M : Type 1} → statement M
best_of_spec =
    tie.close
    (tie.spec
    entry-of-requires
    (λ c κs. search rules)
    returns)
