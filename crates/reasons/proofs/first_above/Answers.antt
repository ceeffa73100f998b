-- Where `position` finds it (above_placed). Assumes nothing.
use Rattle.std.proofs.Common.{◌∙◌, ap, arith}
use Rattle.std.specs.Option.{unwrap_or}
use Rattle.reasons.proofs.Placed.{above_placed}
use Rattle.reasons.proofs.first_above.Goals as goal

pub returns : goal.returns
returns c =
    c.unwrap_or.ensures ∙ ap (λ o. unwrap_or o c.args.n) c.place_above.ensures ∙ above_placed c.args.numbers.now c.args.most c.args.n (omega arith)
