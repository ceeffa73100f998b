-- By what is wrong. Assumes nothing.
use mathlib.Core.Path.{sym}
use Rattle.composing.proofs.Puts.{put_append, put_three, put_same}
use Rattle.inflation_wording.proofs.Words.{words_shape, words_count, words_form, words_asked, words_index}
use borrow.Author.Rules.{rules}
use Rattle.inflation_wording.proofs.put_words.Statement.{statement}
use Rattle.inflation_wording.proofs.put_words.Tie as tie

returns : tie.Need-returns-then-f-eq1
returns c = put_same (sym (words_shape _ _ _ _ c.before.before.before.before.before.before.before.before.before.before.if-f-eq1.true)) (put_append c.before.before.before.before.before.before.put_bytes-end.ensures c.before.before.put_shown.ensures)

returns-2 : tie.Need-returns-then-f-eq2
returns-2 c = put_same (sym (words_count _ _ _ _ c.before.before.before.before.before.if-f-eq2.true _ c.before.before.before.shape_at.ensures.0)) c.before.before.put_counts.ensures

returns-3 : tie.Need-returns-then-f-eq3
returns-3 c = put_same (sym (words_form _ _ _ _ c.before.before.before.before.if-f-eq3.true)) c.before.before.put_number.ensures

returns-4 : tie.Need-returns-then-f-eq20
returns-4 c = put_same (sym (words_asked _ _ _ _ c.before.before.before.before.if-f-eq20.true)) c.before.before.put_number-then-f-eq20.ensures

returns-5 : tie.Need-returns
returns-5 c =
    let e = c.before.before.before.before.before.before.before.before.before.before.before.before.before.before.before.before in
    put_same (sym (words_index _ _ _ _ e.before.before.before.before.before.before.if-f-eq1.false e.before.before.before.before.if-f-eq2.false e.before.before.if-f-eq3.false e.if-f-eq20.false)) (put_three c.before.before.before.before.before.before.before.before.before.before.before.before.put_bytes-year.ensures c.before.before.before.before.before.before.before.before.put_decimal-end.ensures c.before.before.put_bytes.ensures)

pub put_words_spec : {M : Type 1} → statement M
put_words_spec =
    tie.close
    (tie.spec
    (λ c κs. search rules)
    (λ c κs. search rules)
    (λ c. search rules)
    returns
    (λ c κs. search rules)
    (λ c κs. search rules)
    (λ c. search rules)
    returns-2
    (λ c κs. search rules)
    (λ c. search rules)
    returns-3
    (λ c κs. search rules)
    (λ c. search rules)
    returns-4
    (λ c κs. search rules)
    (λ c κs. search rules)
    (λ c κs. search rules)
    (λ c. search rules)
    returns-5)
