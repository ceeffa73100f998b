-- The line that put_line puts, and its length where it ends. Assumes nothing.
use mathlib.Core.Path.{sym, ap, ◌∙◌}
use lib.ListN.{length as size}
use lib.Seq.{length-take-le}
use Rattle.laws.proofs.Lists.{from_place}
use Rattle.lines.specs.Lines.{first_line, line_of}
use borrow.Author.Rules.{rules}
use Rattle.lines.proofs.line_length.Statement.{statement}
use Rattle.lines.proofs.line_length.Tie as tie

returns : tie.Need-returns
unfolding line_of
returns c =
    let b = c.before.before in
    let rest = from_place b.before.before.args.text.now b.line_start-start.result in
    sym (length-take-le _ _ c.line_end.ensures.0) ∙ ap size (c.line_end.ensures.1 ∙ ap first_line (rest ∙ b.line_start-start.ensures.1))

pub line_length_spec : {M : Type 1} → statement M
line_length_spec =
    tie.close
    (tie.spec (λ c κs. search rules) (λ c. search rules) (λ c. search rules) (λ c. search rules) (λ c κs. search rules) returns)
