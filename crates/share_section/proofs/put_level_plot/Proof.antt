-- The bars can be plotted (level_plotted). Assumes nothing.
use native.Mathlib.Omega.{arith}
use Rattle.composing.proofs.Puts.{put_none}
use Rattle.parts.specs.Parts.{either, only}
use Rattle.share_section.specs.ShareSection.{level_plot_words, level_series, level_plot}
use Rattle.share_section.proofs.Bars.{level_plotted}
use borrow.Author.Rules.{rules}
use Rattle.share_section.proofs.put_level_plot.Statement.{statement}
use Rattle.share_section.proofs.put_level_plot.Tie as tie

put-plot-requires : tie.Need-put_plot-requires
put-plot-requires c κs =
    let s = c.before.before.before.before.before.before.before in
    rw c.before.before.before.before.starts_of-s.ensures (omega arith, (omega arith, level_plotted s.args.k _ s.args.figures.now s.requires.0 s.requires.1.1 c.put_plot-arg-then-html-3-1.given))

returns : tie.Need-returns-then-html
unfolding level_plot level_plot_words level_series only either
returns c = rw c.before.before.before.before.before.before.before.before.if-html.true (rw c.before.before.before.before.before.before.before.starts_of-s.ensures at c.before.before.put_plot.ensures)

returns-2 : tie.Need-returns-else-html
unfolding level_plot only either
returns-2 c = rw c.if-html.false (put_none c.before.before.args.out.now c.before.before.args.at)

pub put_level_plot_spec : {M : Type 1} → statement M
put_level_plot_spec =
    tie.close
    (tie.spec
    (λ c κs. search rules)
    (λ c. search rules)
    (λ c. search rules)
    (λ c. search rules)
    put-plot-requires
    (λ c. search rules)
    returns
    returns-2)
