-- The years, and then the settings (put_append). Assumes nothing.
use Rattle.composing.proofs.Puts.{put_append}
use Rattle.hindsight_page.specs.Page.{hindsight_opening}
use borrow.Author.Rules.{rules}
use Rattle.hindsight_page.proofs.put_hindsight_opening.Statement.{statement}
use Rattle.hindsight_page.proofs.put_hindsight_opening.Tie as tie

returns : tie.Need-returns
unfolding hindsight_opening
returns c = put_append c.before.before.before.before.before.before.put_hindsight_years-a.ensures c.before.before.put_settings_tried.ensures

pub put_hindsight_opening_spec : {M : Type 1} → statement M
put_hindsight_opening_spec =
    tie.close
    (tie.spec
    (λ c κs. search rules)
    (λ c κs. search rules)
    (λ c. search rules)
    returns)
