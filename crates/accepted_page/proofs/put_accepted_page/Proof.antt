-- The parts follow one another. Assumes nothing.
use Rattle.composing.proofs.Puts.{put_append, put_five}
use Rattle.accepted_page.specs.AcceptedPage.{accepted_page}
use borrow.Author.Rules.{rules}
use Rattle.accepted_page.proofs.put_accepted_page.Statement.{statement}
use Rattle.accepted_page.proofs.put_accepted_page.Tie as tie

returns : tie.Need-returns
unfolding accepted_page
returns c =
    put_append c.before.before.before.before.before.before.before.before.before.before.before.before.before.before.before.before.before.before.before.before.before.before.put_page_start-a.ensures
    (put_five c.before.before.before.before.before.before.before.before.before.before.before.before.before.before.before.before.before.before.put_opening-b.ensures c.before.before.before.before.before.before.before.before.before.before.before.before.before.before.put_method_sections-c.ensures c.before.before.before.before.before.before.before.before.before.before.put_other_sections-d.ensures c.before.before.before.before.before.before.put_record_section-e.ensures c.before.before.put_page_end.ensures)

pub put_accepted_page_spec : {M : Type 1} → statement M
put_accepted_page_spec =
    tie.close
    (tie.spec (λ c κs. search rules) (λ c κs. search rules) (λ c κs. search rules) (λ c κs. search rules) (λ c κs. search rules) (λ c κs. search rules) (λ c. search rules) returns)
