-- By the first column, and then the first diagonal, that is below zero. Assumes nothing.
use lib.IntN.{pos}
use lib.ListN.{get_or}
use Rattle.composing.proofs.Puts.{put_same}
use Rattle.refusal_reasons.proofs.Below.{column_reason, diagonal_reason, sum_reason}
use borrow.Author.Rules.{rules}
use Rattle.refusal_reasons.proofs.put_totals_reason.Statement.{statement}
use Rattle.refusal_reasons.proofs.put_totals_reason.Tie as tie

returns : tie.Need-returns-then-j-n
returns c =
    let j = c.before.before.before.before.before.before.before.first_below-j in
    put_same (column_reason (λ j. get_or c.before.before.before.before.before.before.before.before.before.args.columns.now j (pos 0)) (λ h. get_or c.before.before.before.before.before.before.before.before.before.args.diagonals.now h (pos 0)) c.before.before.before.before.before.before.before.before.before.args.k j.result j.ensures c.before.before.before.before.before.before.if-j-n.true) c.before.before.put_year_reason.ensures

returns-2 : tie.Need-returns-then-h-n
returns-2 c =
    let j = c.before.before.before.before.before.before.before.before.before.first_below-j in
    let h = c.before.before.before.before.before.before.before.first_below-h in
    put_same (diagonal_reason (λ j. get_or c.before.before.before.before.before.before.before.before.before.before.before.args.columns.now j (pos 0)) (λ h. get_or c.before.before.before.before.before.before.before.before.before.before.before.args.diagonals.now h (pos 0)) c.before.before.before.before.before.before.before.before.before.before.before.args.k j.result h.result j.ensures c.before.before.before.before.before.before.before.before.if-j-n.false h.ensures c.before.before.before.before.before.before.if-h-n.true) c.before.before.put_year_reason-then-h-n.ensures

returns-3 : tie.Need-returns
returns-3 c =
    let j = c.before.before.before.before.before.before.before.before.before.first_below-j in
    let h = c.before.before.before.before.before.before.before.first_below-h in
    put_same (sum_reason (λ j. get_or c.before.before.before.before.before.before.before.before.before.before.before.args.columns.now j (pos 0)) (λ h. get_or c.before.before.before.before.before.before.before.before.before.before.before.args.diagonals.now h (pos 0)) c.before.before.before.before.before.before.before.before.before.before.before.args.k j.result h.result j.ensures c.before.before.before.before.before.before.before.before.if-j-n.false h.ensures c.before.before.before.before.before.before.if-h-n.false) c.before.before.put_bytes.ensures

pub put_totals_reason_spec : {M : Type 1} → statement M
put_totals_reason_spec =
    tie.close
    (tie.spec
    (λ c. search rules)
    (λ c κs. search rules)
    (λ c κs. search rules)
    (λ c. search rules)
    returns
    (λ c κs. search rules)
    (λ c κs. search rules)
    (λ c. search rules)
    returns-2
    (λ c κs. search rules)
    (λ c. search rules)
    returns-3)
