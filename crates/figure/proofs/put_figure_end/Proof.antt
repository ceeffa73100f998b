-- The words and the numbers follow one another (put_three). Assumes nothing.
use Rattle.composing.proofs.Puts.{put_three}
use Rattle.figure.specs.Figure.{figure_end}
use borrow.Author.Rules.{rules}
use Rattle.figure.proofs.put_figure_end.Statement.{statement}
use Rattle.figure.proofs.put_figure_end.Tie as tie

returns : tie.Need-returns
unfolding figure_end
returns c = put_three c.before.before.before.before.before.before.before.before.before.before.before.before.before.before.before.put_numbered-a.ensures (rw c.before.before.before.before.before.before.before.before.before.wide_of.ensures at c.before.before.before.before.before.before.before.before.put_numbered-b.ensures) c.before.before.put_bytes.ensures

pub put_figure_end_spec : {M : Type 1} → statement M
put_figure_end_spec =
    tie.close
    (tie.spec
    (λ c κs. search rules)
    (λ c κs. search rules)
    (λ c κs. search rules)
    (λ c κs. search rules)
    (λ c. search rules)
    returns)
