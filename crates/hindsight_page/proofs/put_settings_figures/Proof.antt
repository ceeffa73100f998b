-- The parts follow one another (put_four). Assumes nothing.
use Rattle.composing.proofs.Puts.{put_four}
use Rattle.hindsight_page.specs.Page.{settings_figures}
use borrow.Author.Rules.{rules}
use Rattle.hindsight_page.proofs.put_settings_figures.Statement.{statement}
use Rattle.hindsight_page.proofs.put_settings_figures.Tie as tie

returns : tie.Need-returns
unfolding settings_figures
returns c = put_four c.before.before.before.before.before.before.before.before.before.before.before.before.before.before.put_beside_start-a.ensures c.before.before.before.before.before.before.before.before.before.before.put_settings_rows-b.ensures c.before.before.before.before.before.before.put_sums_plot-c.ensures c.before.before.put_beside_end.ensures

pub put_settings_figures_spec : {M : Type 1} → statement M
put_settings_figures_spec =
    tie.close
    (tie.spec
    (λ c κs. search rules)
    (λ c κs. search rules)
    (λ c κs. search rules)
    (λ c κs. search rules)
    (λ c. search rules)
    returns)
