-- Part by part. Assumes nothing.
use borrow.Author.Rules.{rules}
use Rattle.composing.proofs.Puts.{put_four}
use Rattle.rest_years.specs.RestYears.{year_section}
use Rattle.rest_years.proofs.put_year_section.Statement.{statement}
use Rattle.rest_years.proofs.put_year_section.Tie as tie

returns : tie.Need-returns
unfolding year_section
returns c =
    put_four c.before.before.before.before.before.before.before.before.before.before.before.before.before.before.before.before.put_section_start-a.ensures c.before.before.before.before.before.before.before.before.before.before.put_paragraph-b.ensures c.before.before.before.before.before.before.put_year_table-c.ensures c.before.before.put_section_end.ensures

pub put_year_section_spec : {M : Type 1} → statement M
put_year_section_spec =
    tie.close
    (tie.spec
    (λ c κs. search rules)
    (λ c κs. search rules)
    (λ c κs. search rules)
    (λ c κs. search rules)
    (λ c. search rules)
    returns)
