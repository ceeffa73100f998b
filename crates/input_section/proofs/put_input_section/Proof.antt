-- The parts follow one another. Assumes nothing.
use Rattle.composing.proofs.Puts.{put_append, put_five}
use Rattle.input_section.specs.InputSection.{input_section}
use borrow.Author.Rules.{rules}
use Rattle.input_section.proofs.put_input_section.Statement.{statement}
use Rattle.input_section.proofs.put_input_section.Tie as tie

returns : tie.Need-returns
unfolding input_section
returns c =
    put_append c.before.before.before.before.before.before.before.before.before.before.before.before.before.before.before.before.before.before.before.before.before.before.before.before.before.before.put_section_start-a.ensures
    (put_append c.before.before.before.before.before.before.before.before.before.before.before.before.before.before.before.before.before.before.before.before.before.before.put_beside_start-b.ensures
    (put_five c.before.before.before.before.before.before.before.before.before.before.before.before.before.before.before.before.before.before.put_input_tables-c.ensures c.before.before.before.before.before.before.before.before.before.before.before.before.before.before.put_single_table-d.ensures c.before.before.before.before.before.before.before.before.before.before.put_beside_end-e.ensures c.before.before.before.before.before.before.put_increment_table-f.ensures c.before.before.put_section_end.ensures))

pub put_input_section_spec : {M : Type 1} → statement M
put_input_section_spec =
    tie.close
    (tie.spec
    (λ c κs. search rules)
    (λ c κs. search rules)
    (λ c κs. search rules)
    (λ c κs. search rules)
    (λ c κs. search rules)
    (λ c κs. search rules)
    (λ c κs. search rules)
    (λ c. search rules)
    returns)
