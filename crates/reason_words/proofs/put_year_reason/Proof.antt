-- The words and the year, one after another (put_four). Assumes nothing.
use Rattle.composing.proofs.Puts.{put_four}
use Rattle.reason_words.specs.ReasonWords.{year_reason}
use borrow.Author.Rules.{rules}
use Rattle.reason_words.proofs.put_year_reason.Statement.{statement}
use Rattle.reason_words.proofs.put_year_reason.Tie as tie

returns : tie.Need-returns
unfolding year_reason
returns c =
    put_four
    c.before.before.before.before.before.before.before.before.before.before.before.before.before.before.before.before.put_bytes-a.ensures
    c.before.before.before.before.before.before.before.before.before.before.before.before.put_bytes-b.ensures
    c.before.before.before.before.before.before.before.before.put_decimal-c.ensures
    c.before.before.put_bytes.ensures

pub put_year_reason_spec : {M : Type 1} → statement M
put_year_reason_spec =
    tie.close
    (tie.spec
    (λ c κs. search rules)
    (λ c κs. search rules)
    (λ c κs. search rules)
    (λ c κs. search rules)
    (λ c. search rules)
    returns)
