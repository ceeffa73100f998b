-- The lines of the code's text are those of the definition, and none has a line feed in it: each by computing. Assumes nothing.
use mathlib.Core.Path.{refl}
use Rattle.rules.specs.Lists.{every}
use Rattle.entries.specs.Leading.{passing}
use Rattle.composing.proofs.Puts.{put_same}
use Rattle.lines.specs.Lines.{written, first_line, line_of}
use Rattle.advice.specs.Advice.{asked_texts, asked_text}
use Rattle.lines.proofs.Lines.{line_is}
use borrow.Author.Rules.{rules}
use Rattle.advice.proofs.put_asked.Statement.{statement}
use Rattle.advice.proofs.put_asked.Tie as tie

returns : tie.Need-returns
unfolding asked_texts asked_text written first_line line_of every passing
returns c = put_same (line_is asked_texts (written asked_texts) c.before.before.before.before.before.before.before.args.n refl) c.before.before.put_line.ensures

pub put_asked_spec : {M : Type 1} → statement M
put_asked_spec =
    tie.close (tie.spec
    (λ c κs. search rules)
    (λ c. search rules)
    returns)
