-- The parts follow one another. Assumes nothing.
use Rattle.composing.proofs.Puts.{put_four}
use Rattle.accepted_page.specs.AcceptedPage.{method_sections}
use borrow.Author.Rules.{rules}
use Rattle.accepted_page.proofs.put_method_sections.Statement.{statement}
use Rattle.accepted_page.proofs.put_method_sections.Tie as tie

returns : tie.Need-returns
unfolding method_sections
returns c =
    put_four c.before.before.before.before.before.before.before.before.before.before.before.before.before.before.put_key_section-a.ensures c.before.before.before.before.before.before.before.before.before.before.put_provision_section-b.ensures c.before.before.before.before.before.before.put_share_section-c.ensures c.before.before.put_fit.ensures

pub put_method_sections_spec : {M : Type 1} → statement M
put_method_sections_spec =
    tie.close
    (tie.spec (λ c κs. search rules) (λ c κs. search rules) (λ c κs. search rules) (λ c κs. search rules) (λ c. search rules) returns)
