-- The tables and the plot between the start and the end of the row (put_five). Assumes nothing.
use Rattle.composing.proofs.Puts.{put_five}
use Rattle.share_section.specs.ShareSection.{levels}
use borrow.Author.Rules.{rules}
use Rattle.share_section.proofs.put_levels.Statement.{statement}
use Rattle.share_section.proofs.put_levels.Tie as tie

returns : tie.Need-returns
unfolding levels
returns c =
    put_five c.before.before.before.before.before.before.before.before.before.before.before.before.before.before.before.before.before.before.put_beside_start-found.ensures c.before.before.before.before.before.before.before.before.before.before.before.before.before.before.put_level_table-future.ensures c.before.before.before.before.before.before.before.before.before.before.put_future_table-plot.ensures c.before.before.before.before.before.before.put_level_plot-end.ensures c.before.before.put_beside_end.ensures

pub put_levels_spec : {M : Type 1} → statement M
put_levels_spec =
    tie.close
    (tie.spec
    (λ c κs. search rules)
    (λ c κs. search rules)
    (λ c κs. search rules)
    (λ c κs. search rules)
    (λ c κs. search rules)
    (λ c. search rules)
    returns)
