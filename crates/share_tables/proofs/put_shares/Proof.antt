-- The table and the plot between the start and the end of the row (put_four). Assumes nothing.
use Rattle.composing.proofs.Puts.{put_four}
use Rattle.share_tables.specs.Shares.{shares}
use borrow.Author.Rules.{rules}
use Rattle.share_tables.proofs.put_shares.Statement.{statement}
use Rattle.share_tables.proofs.put_shares.Tie as tie

returns : tie.Need-returns
unfolding shares
returns c =
    put_four c.before.before.before.before.before.before.before.before.before.before.before.before.before.before.put_beside_start-table.ensures c.before.before.before.before.before.before.before.before.before.before.put_share_table-plot.ensures c.before.before.before.before.before.before.put_share_plot-end.ensures c.before.before.put_beside_end.ensures

pub put_shares_spec : {M : Type 1} → statement M
put_shares_spec =
    tie.close
    (tie.spec
    (λ c κs. search rules)
    (λ c κs. search rules)
    (λ c κs. search rules)
    (λ c κs. search rules)
    (λ c. search rules)
    returns)
