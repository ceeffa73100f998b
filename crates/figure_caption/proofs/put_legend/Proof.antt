-- By whether there is a word. Assumes nothing.
use mathlib.Core.Path.{sym, ◌∙◌}
use borrow.Author.Tests.{eq-eqb, ne_eqb}
use lib.ListN.{length}
use Rattle.composing.proofs.Puts.{put_none, put_four}
use Rattle.lines.specs.Lines.{line_of}
use Rattle.figure_caption.specs.Caption.{legend}
use borrow.Author.Rules.{rules}
use Rattle.figure_caption.proofs.put_legend.Statement.{statement}
use Rattle.figure_caption.proofs.put_legend.Tie as tie

returns : tie.Need-returns-then-line_length-eq0
unfolding legend
returns c =
    rw (eq-eqb (length (line_of c.before.before.before.before.args.line c.before.before.before.before.args.words.now)) 0 (sym c.before.line_length.ensures ∙ c.if-line_length-eq0.true)) (put_none _ _)

returns-2 : tie.Need-returns-else-line_length-eq0
unfolding legend
returns-2 c =
    rw (ne_eqb (length (line_of c.before.before.before.before.before.before.before.before.before.before.before.before.before.before.before.before.before.before.before.before.before.before.before.before.args.line c.before.before.before.before.before.before.before.before.before.before.before.before.before.before.before.before.before.before.before.before.before.before.before.before.args.words.now)) 0 (λ e. c.before.before.before.before.before.before.before.before.before.before.before.before.before.before.before.before.before.before.before.before.if-line_length-eq0.false (c.before.before.before.before.before.before.before.before.before.before.before.before.before.before.before.before.before.before.before.before.before.line_length.ensures ∙ e)))
    (put_four c.before.before.before.before.before.before.before.before.before.before.before.before.before.before.before.before.put_bytes-a.ensures c.before.before.before.before.before.before.before.before.before.before.before.before.put_byte-b.ensures c.before.before.before.before.before.before.put_bytes-c.ensures c.before.before.put_line.ensures)

pub put_legend_spec : {M : Type 1} → statement M
put_legend_spec =
    tie.close
    (tie.spec
    (λ c κs. search rules)
    (λ c κs. search rules)
    (λ c κs. search rules)
    (λ c κs. search rules)
    (λ c κs. search rules)
    returns
    (λ c. search rules)
    returns-2)
