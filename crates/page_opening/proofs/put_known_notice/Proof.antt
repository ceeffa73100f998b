-- Where the years are known. Assumes nothing.
use Rattle.composing.proofs.Puts.{put_none}
use borrow.Author.Rules.{rules}
use Rattle.page_opening.proofs.put_known_notice.Statement.{statement}
use Rattle.page_opening.proofs.put_known_notice.Tie as tie

returns : tie.Need-returns-then-known
returns c =
    rw c.before.before.before.before.if-known.true (c.before.before.put_notice.ensures)

returns-2 : tie.Need-returns-else-known
returns-2 c =
    rw c.if-known.false (put_none _ _)

pub put_known_notice_spec : {M : Type 1} → statement M
put_known_notice_spec =
    tie.close
    (tie.spec (λ c κs. search rules) (λ c. search rules) returns returns-2)
