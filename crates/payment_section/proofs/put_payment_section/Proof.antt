-- The heading, the paragraph, the table and the end (put_four). Assumes nothing.
use Rattle.composing.proofs.Puts.{put_four}
use Rattle.payment_section.specs.Payments.{payments_section}
use borrow.Author.Rules.{rules}
use Rattle.payment_section.proofs.put_payment_section.Statement.{statement}
use Rattle.payment_section.proofs.put_payment_section.Tie as tie

returns : tie.Need-returns
unfolding payments_section
returns c =
    let end = c.before.before in
    let table = end.before.before.before.before in
    let paragraph = table.before.before.before.before in
    let start = paragraph.before.before.before.before.before.before in
    put_four start.put_section_start-paragraph.ensures paragraph.put_only-table.ensures table.put_payment_table-end.ensures end.put_section_end.ensures

pub put_payment_section_spec : {M : Type 1} → statement M
put_payment_section_spec =
    tie.close
    (tie.spec
    (λ c κs. search rules)
    (λ c κs. search rules)
    (λ c κs. search rules)
    (λ c κs. search rules)
    (λ c. search rules)
    returns)
