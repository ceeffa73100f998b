-- One column after the other. Assumes nothing.
use Rattle.column_plot.specs.ColumnPlot.{placed_pair}
use borrow.Author.Rules.{rules}
use Rattle.column_plot.proofs.place_pair.Statement.{statement}
use Rattle.column_plot.proofs.place_pair.Tie as tie

returns : tie.Need-returns
unfolding placed_pair
returns c =
    let p = c.before.before.before in
    rw (p.place.ensures.0, p.place.ensures.1, p.before.before.before.styled-style.ensures) at c.place-2.ensures

pub place_pair_spec : {M : Type 1} → statement M
place_pair_spec = tie.close (tie.spec (λ c κs. search rules) (λ c κs. search rules) (λ c κs. search rules) returns)
