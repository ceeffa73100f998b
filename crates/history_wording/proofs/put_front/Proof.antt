-- Three texts, one after another. Assumes nothing.
use Rattle.composing.proofs.Puts.{put_three}
use Rattle.history_wording.specs.Refused.{refused_front}
use borrow.Author.Rules.{rules}
use Rattle.history_wording.proofs.put_front.Statement.{statement}
use Rattle.history_wording.proofs.put_front.Tie as tie

returns : tie.Need-returns
unfolding refused_front
returns c =
    let d = c.before.before.before.before.before.before.before.before in
    put_three d.before.before.before.before.put_bytes-number.ensures d.put_decimal-colon.ensures c.before.before.put_bytes.ensures

pub put_front_spec : {M : Type 1} → statement M
put_front_spec =
    tie.close
    (tie.spec
    (λ c κs. search rules)
    (λ c κs. search rules)
    (λ c κs. search rules)
    (λ c. search rules)
    returns)
