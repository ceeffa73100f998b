-- The first line feed is what `position` finds. Assumes nothing.
use Rattle.std.proofs.Common.{rules}
use mathlib.Core.Path.{◌≡◌, ap, ◌∙◌}
use lib.ListN.{length}
use Rattle.std.specs.Prelude.{nat_eq, unwrap_or}
use Rattle.std.proofs.lemmas.Iterator.{YieldsList-from_slice}
use Rattle.std.proofs.lemmas.Iterator.Search.{position_from_yields_List}
use Rattle.lines.proofs.Lines.{line_found}
use Rattle.lines.proofs.line_end.Goals as goal

pub returns : goal.returns
returns c =
    let text = c.args.text.now in
    let e : c.unwrap_or.result ≡ unwrap_or c.position.result (length text) = search rules in
    line_found text c.unwrap_or.result (e ∙ ap (λ r. unwrap_or r (length text))
    (position_from_yields_List (λ b. nat_eq b 10) _ _ _ c.position.ensures.ran (YieldsList-from_slice text cc) (λ x b q k. (search rules, search rules))))
