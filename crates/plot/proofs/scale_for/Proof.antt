-- Both sides of zero are within the most (largest_most). Assumes nothing.
use mathlib.Core.Path.{ap₂, ◌∙◌}
use mathlib.Core.Bool.{true, false}
use Rattle.axis.specs.Axis.{scale_of}
use Rattle.plot.specs.Plot.{scale_for}
use Rattle.plot.proofs.Slots.{largest_most}
use borrow.Author.Rules.{rules}
use Rattle.plot.proofs.scale_for.Statement.{statement}
use Rattle.plot.proofs.scale_for.Tie as tie

scale-of-requires : tie.Need-scale_of-requires
scale-of-requires c κs =
    let s = c.before.before in
    let values = s.args.values.now in
    (s.requires.0, (rw c.before.largest_on-high.ensures (largest_most false values s.args.s s.args.s.slots s.requires.1), rw c.largest_on-low.ensures (largest_most true values s.args.s s.args.s.slots s.requires.1)))

returns : tie.Need-returns
unfolding scale_for
returns c = c.scale_of.ensures ∙ ap₂ (scale_of c.before.before.before.args.one) c.before.before.largest_on-high.ensures c.before.largest_on-low.ensures

pub scale_for_spec : {M : Type 1} → statement M
scale_for_spec =
    tie.close
    (tie.spec
    (λ c κs. search rules)
    (λ c κs. search rules)
    scale-of-requires
    returns)
