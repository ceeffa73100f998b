-- The words and the year, one after another (put_three). Assumes nothing.
use Rattle.composing.proofs.Puts.{put_three}
use Rattle.reason_words.specs.ReasonWords.{base_reason}
use borrow.Author.Rules.{rules}
use Rattle.reason_words.proofs.put_base_reason.Statement.{statement}
use Rattle.reason_words.proofs.put_base_reason.Tie as tie

returns : tie.Need-returns
unfolding base_reason
returns c =
    put_three
    c.before.before.before.before.before.before.before.before.before.before.before.before.put_bytes-a.ensures
    c.before.before.before.before.before.before.before.before.put_decimal-b.ensures
    c.before.before.put_bytes.ensures

pub put_base_reason_spec : {M : Type 1} → statement M
put_base_reason_spec =
    tie.close
    (tie.spec
    (λ c κs. search rules)
    (λ c κs. search rules)
    (λ c κs. search rules)
    (λ c. search rules)
    returns)
