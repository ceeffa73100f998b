-- The parts follow one another (put_three). Assumes nothing.
use Rattle.composing.proofs.Puts.{put_three}
use Rattle.hindsight_page.specs.Page.{settings_tried}
use borrow.Author.Rules.{rules}
use Rattle.hindsight_page.proofs.put_settings_tried.Statement.{statement}
use Rattle.hindsight_page.proofs.put_settings_tried.Tie as tie

returns : tie.Need-returns
unfolding settings_tried
returns c = put_three c.before.before.before.before.before.before.before.before.before.before.before.before.before.before.put_either-a.ensures c.before.before.before.before.before.before.before.before.before.before.put_decimal-b.ensures c.before.before.put_either.ensures

pub put_settings_tried_spec : {M : Type 1} → statement M
put_settings_tried_spec =
    tie.close
    (tie.spec
    (λ c κs. search rules)
    (λ c κs. search rules)
    (λ c κs. search rules)
    (λ c. search rules)
    returns)
