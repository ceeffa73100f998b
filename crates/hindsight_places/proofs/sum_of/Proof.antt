-- The size of the setting's last entry (sum_inside). Assumes nothing.
use mir.Syntax.{w64}
use mathlib.Core.Path.{ap, ◌∙◌}
use native.Mathlib.Omega.{arith}
use lib.IntN.{nat_abs}
use mir.Facts.{to_z-of_z}
use borrow.Author.Rules.{rules, sfits_of}
use Rattle.hindsight_places.specs.Places.{sum_at}
use Rattle.hindsight_places.proofs.Inside.{count_least, sum_inside}
use Rattle.hindsight_places.proofs.sum_of.Statement.{statement}
use Rattle.hindsight_places.proofs.sum_of.Tie as tie

sub-entry-of : tie.Need-overflow_sub-setting_count
sub-entry-of c = omega (arith, c.setting_count.ensures, count_least c.before.args.k c.before.requires.0)

entry-of-requires : tie.Need-entry_of-requires
entry-of-requires c κs =
    let s = c.before in
    (s.requires.0, rw c.setting_count.ensures (sum_inside s.args.k s.args.a s.requires.0 s.requires.1))

returns : tie.Need-returns
unfolding sum_at
returns c = c.size_of.ensures ∙ ap nat_abs (to_z-of_z {w = w64} (sfits_of c.before.entry_of.type_inv) ∙ (rw c.before.before.setting_count.ensures at c.before.entry_of.ensures))

pub sum_of_spec : {M : Type 1} → statement M
sum_of_spec =
    tie.close
    (tie.spec
    (λ c κs. search rules)
    sub-entry-of
    entry-of-requires
    (λ c κs. search rules)
    returns)
