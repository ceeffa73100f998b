-- The parts follow one another. Assumes nothing.
use Rattle.composing.proofs.Puts.{put_append, put_five}
use Rattle.accepted_page.specs.AcceptedPage.{other_sections}
use borrow.Author.Rules.{rules}
use Rattle.accepted_page.proofs.put_other_sections.Statement.{statement}
use Rattle.accepted_page.proofs.put_other_sections.Tie as tie

returns : tie.Need-returns
unfolding other_sections
returns c =
    put_append c.before.before.before.before.before.before.before.before.before.before.before.before.before.before.before.before.before.before.before.before.before.before.before.put_payment_section-a.ensures
    (put_five (rw c.before.before.before.before.before.before.before.before.before.before.before.before.before.before.before.before.before.before.before.corrects.ensures at c.before.before.before.before.before.before.before.before.before.before.before.before.before.before.before.before.before.before.put_expense_section-b.ensures) c.before.before.before.before.before.before.before.before.before.before.before.before.before.before.put_ladder_section-c.ensures c.before.before.before.before.before.before.before.before.before.before.put_input_section-d.ensures c.before.before.before.before.before.before.put_rates_section-e.ensures c.before.before.put_proof_section.ensures)

pub put_other_sections_spec : {M : Type 1} → statement M
put_other_sections_spec =
    tie.close
    (tie.spec (λ c κs. search rules) (λ c κs. search rules) (λ c κs. search rules) (λ c κs. search rules) (λ c κs. search rules) (λ c κs. search rules) (λ c κs. search rules) (λ c. search rules) returns)
