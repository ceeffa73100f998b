-- By the number. Assumes nothing.
use mathlib.Core.Path.{refl}
use mathlib.Core.Bool.{false}
use Rattle.reasons.proofs.Counted.{no_both}
use Rattle.composing.proofs.Puts.{put_same}
use Rattle.refusals.proofs.Words.{words_7, words_13, other_is}
use borrow.Author.Rules.{rules}
use Rattle.refusals.proofs.put_words.Statement.{statement}
use Rattle.refusals.proofs.put_words.Tie as tie

put-reason-requires : tie.Need-put_reason-requires
put-reason-requires c κs = (c.before.before.before.before.requires.0 c.before.if-answer-eq7.true, λ e. absurd (no_both false e refl))

returns : tie.Need-returns-then-answer-eq7
returns c = let s = c.before.before.before.before.before.before.before.args in put_same (words_7 s.packed.now s.answer c.before.before.before.before.if-answer-eq7.true) c.before.before.put_reason.ensures

put-reason-requires-2 : tie.Need-put_reason-requires-then-answer-eq13
put-reason-requires-2 c κs = let passed = c.before.before.before.before.before.requires.1 c.before.if-answer-eq13.true in (passed.0, λ e. passed.1)

returns-2 : tie.Need-returns-then-answer-eq13
returns-2 c = let s = c.before.before.before.before.before.before.before.before.args in put_same (words_13 s.packed.now s.answer c.before.before.before.before.if-answer-eq13.true) c.before.before.put_reason-then-answer-eq13.ensures

returns-3 : tie.Need-returns
returns-3 c =
    let s = c.before.before.before.before.before.before.before.before.args in
    put_same (other_is s.packed.now s.answer c.before.before.before.before.before.if-answer-eq7.false c.before.before.before.before.if-answer-eq13.false) c.before.before.put_question.ensures

pub put_words_spec : {M : Type 1} → statement M
put_words_spec =
    tie.close
    (tie.spec
    put-reason-requires
    (λ c. search rules)
    returns
    put-reason-requires-2
    (λ c. search rules)
    returns-2
    (λ c κs. search rules)
    (λ c. search rules)
    returns-3)
