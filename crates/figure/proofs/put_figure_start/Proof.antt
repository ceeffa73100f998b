-- The parts follow one another (put_four). Assumes nothing.
use Rattle.composing.proofs.Puts.{put_four}
use Rattle.figure.specs.Figure.{figure_start}
use borrow.Author.Rules.{rules}
use Rattle.figure.proofs.put_figure_start.Statement.{statement}
use Rattle.figure.proofs.put_figure_start.Tie as tie

returns : tie.Need-returns
unfolding figure_start
returns c = put_four c.before.before.before.before.before.before.before.before.before.before.before.before.before.before.put_caption-a.ensures c.before.before.before.before.before.before.before.before.before.before.put_canvas-b.ensures c.before.before.before.before.before.before.put_description-c.ensures c.before.before.put_axis_label.ensures

pub put_figure_start_spec : {M : Type 1} → statement M
put_figure_start_spec =
    tie.close
    (tie.spec
    (λ c κs. search rules)
    (λ c κs. search rules)
    (λ c κs. search rules)
    (λ c κs. search rules)
    (λ c. search rules)
    returns)
