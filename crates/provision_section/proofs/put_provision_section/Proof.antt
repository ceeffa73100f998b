-- The heading, the paragraph, the table and the end of the section (put_four). Assumes nothing.
use Rattle.composing.proofs.Puts.{put_four}
use Rattle.provision_section.specs.Provisions.{provision_paragraph, provisions_section}
use borrow.Author.Rules.{rules}
use Rattle.provision_section.proofs.put_provision_section.Statement.{statement}
use Rattle.provision_section.proofs.put_provision_section.Tie as tie

returns : tie.Need-returns
unfolding provisions_section provision_paragraph
returns c =
    put_four c.before.before.before.before.before.before.before.before.before.before.before.before.before.before.before.before.put_section_start-paragraph.ensures c.before.before.before.before.before.before.before.before.before.before.put_only-table.ensures c.before.before.before.before.before.before.put_provision_table-end.ensures c.before.before.put_section_end.ensures

pub put_provision_section_spec : {M : Type 1} → statement M
put_provision_section_spec =
    tie.close
    (tie.spec
    (λ c κs. search rules)
    (λ c κs. search rules)
    (λ c κs. search rules)
    (λ c κs. search rules)
    (λ c. search rules)
    returns)
