-- The entry after the number. Assumes nothing.
use mir.Syntax.{w64}
use mathlib.Core.Path.{◌∙◌}
use mir.Facts.{to_z-of_z}
use borrow.Author.Rules.{rules, sfits_of}
use Rattle.drift_scale.proofs.share_at.Statement.{statement}
use Rattle.drift_scale.proofs.share_at.Tie as tie

returns : tie.Need-returns
returns c = to_z-of_z {w = w64} (sfits_of c.entry_of.type_inv) ∙ c.entry_of.ensures

pub share_at_spec : {M : Type 1} → statement M
share_at_spec =
    tie.close
    (tie.spec
    (λ c. search rules)
    (λ c κs. search rules)
    returns)
