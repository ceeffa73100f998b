-- The words and the two years, one after another (put_five). Assumes nothing.
use Rattle.composing.proofs.Puts.{put_five}
use Rattle.reason_words.specs.ReasonWords.{factor_reason}
use borrow.Author.Rules.{rules}
use Rattle.reason_words.proofs.put_factor_reason.Statement.{statement}
use Rattle.reason_words.proofs.put_factor_reason.Tie as tie

returns : tie.Need-returns
unfolding factor_reason
returns c =
    put_five
    c.before.before.before.before.before.before.before.before.before.before.before.before.before.before.before.before.before.before.before.before.before.before.put_bytes-a.ensures
    c.before.before.before.before.before.before.before.before.before.before.before.before.before.before.before.before.before.before.put_decimal-b.ensures
    c.before.before.before.before.before.before.before.before.before.before.before.before.put_bytes-c.ensures
    c.before.before.before.before.before.before.before.before.put_decimal-d.ensures
    c.before.before.put_bytes.ensures

pub put_factor_reason_spec : {M : Type 1} → statement M
put_factor_reason_spec =
    tie.close
    (tie.spec
    (λ c κs. search rules)
    (λ c κs. search rules)
    (λ c κs. search rules)
    (λ c. search rules)
    (λ c κs. search rules)
    (λ c κs. search rules)
    (λ c. search rules)
    returns)
