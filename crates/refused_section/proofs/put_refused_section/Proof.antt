-- The parts follow one another. Assumes nothing.
use Rattle.composing.proofs.Puts.{put_length, put_append, put_five}
use Rattle.refused_section.specs.RefusedSection.{refused_section}
use borrow.Author.Rules.{rules}
use Rattle.refused_section.proofs.put_refused_section.Statement.{statement}
use Rattle.refused_section.proofs.put_refused_section.Tie as tie

returns : tie.Need-returns
unfolding refused_section
returns c =
    put_append c.before.before.before.before.before.before.before.before.before.before.before.before.before.before.before.before.before.before.before.before.before.before.before.before.before.before.before.before.before.before.before.before.before.before.before.before.before.before.before.before.before.before.before.before.before.before.before.before.before.before.before.before.before.before.put_refused_heading-a.ensures
    (put_append c.before.before.before.before.before.before.before.before.before.before.before.before.before.before.before.before.before.before.before.before.before.before.before.before.before.before.before.before.before.before.before.before.before.before.before.before.before.before.before.before.before.before.before.before.before.before.before.before.before.before.put_asked-b.ensures
    (put_append c.before.before.before.before.before.before.before.before.before.before.before.before.before.before.before.before.before.before.before.before.before.before.before.before.before.before.before.before.before.before.before.before.before.before.before.before.before.before.before.before.before.before.put_either-c.ensures
    (put_append c.before.before.before.before.before.before.before.before.before.before.before.before.before.before.before.before.before.before.before.before.before.before.before.before.before.before.before.before.before.before.before.before.before.before.before.before.before.before.put_said-d.ensures
    (put_append c.before.before.before.before.before.before.before.before.before.before.before.before.before.before.before.before.before.before.before.before.before.before.before.before.before.before.before.before.before.before.put_either-e.ensures
    (put_five c.before.before.before.before.before.before.before.before.before.before.before.before.before.before.before.before.before.before.before.before.before.before.before.before.before.before.put_finding_table-g.ensures c.before.before.before.before.before.before.before.before.before.before.before.before.before.before.before.before.before.before.put_either-h.ensures c.before.before.before.before.before.before.before.before.before.before.before.before.before.before.put_advice-i.ensures c.before.before.before.before.before.before.put_either-j.ensures c.before.before.put_section_end.ensures)))))

same_length : tie.Need-shape_of-out
same_length c = put_length (returns c)

pub put_refused_section_spec : {M : Type 1} → statement M
put_refused_section_spec =
    tie.close
    (tie.spec
    (λ c κs. search rules)
    (λ c κs. search rules)
    (λ c κs. search rules)
    (λ c κs. search rules)
    (λ c κs. search rules)
    (λ c κs. search rules)
    (λ c κs. search rules)
    (λ c κs. search rules)
    (λ c κs. search rules)
    (λ c κs. search rules)
    same_length
    returns)
