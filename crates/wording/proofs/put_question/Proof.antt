-- The lines of the code's text are the words of the questions, one for each, and none has a line feed in it: each by computing. Assumes nothing.
use mathlib.Core.Path.{refl}
use Rattle.rules.specs.Lists.{every}
use Rattle.entries.specs.Leading.{passing}
use Rattle.composing.proofs.Puts.{put_same}
use Rattle.lines.specs.Lines.{written, first_line, line_of}
use Rattle.wording.specs.Wording.{question_texts, question_text}
use Rattle.lines.proofs.Lines.{line_is}
use borrow.Author.Rules.{rules}
use Rattle.wording.proofs.put_question.Statement.{statement}
use Rattle.wording.proofs.put_question.Tie as tie

returns : tie.Need-returns
unfolding question_texts question_text written first_line line_of every passing
returns c = put_same (line_is question_texts (written question_texts) c.before.before.before.before.before.before.before.args.n refl) c.before.before.put_line.ensures

pub put_question_spec : {M : Type 1} → statement M
put_question_spec =
    tie.close (tie.spec
    (λ c κs. search rules)
    (λ c. search rules)
    returns)
