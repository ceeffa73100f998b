-- The word, the number and the line feed. Assumes nothing.
use borrow.Author.Rules.{rules}
use Rattle.composing.proofs.Puts.{put_three}
use Rattle.list_text.specs.EntryLines.{refused_text}
use Rattle.list_text.proofs.put_refused.Statement.{statement}
use Rattle.list_text.proofs.put_refused.Tie as tie

returns : tie.Need-returns
unfolding refused_text
returns c =
    let number = c.before.before.before.before.before.before in
    put_three number.before.before.before.before.put_bytes-a.ensures number.put_decimal-b.ensures c.before.before.put_byte.ensures

pub put_refused_spec : {M : Type 1} → statement M
put_refused_spec =
    tie.close
    (tie.spec
    (λ c κs. search rules)
    (λ c κs. search rules)
    (λ c κs. search rules)
    (λ c. search rules)
    returns)
