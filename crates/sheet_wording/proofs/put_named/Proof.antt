-- A quote, the word and a quote. Assumes nothing.
use Rattle.composing.proofs.Puts.{put_three}
use Rattle.sheet_wording.specs.Problem.{named}
use borrow.Author.Rules.{rules}
use Rattle.sheet_wording.proofs.put_named.Statement.{statement}
use Rattle.sheet_wording.proofs.put_named.Tie as tie

returns : tie.Need-returns
unfolding named
returns c =
    put_three c.before.before.before.before.before.before.before.before.before.before.before.before.put_bytes-start.ensures c.before.before.before.before.before.before.before.before.put_bytes-end.ensures c.before.before.put_bytes.ensures

pub put_named_spec : {M : Type 1} → statement M
put_named_spec =
    tie.close
    (tie.spec
    (λ c κs. search rules)
    (λ c κs. search rules)
    (λ c κs. search rules)
    (λ c. search rules)
    returns)
