-- The parts follow one another. Assumes nothing.
use Rattle.composing.proofs.Puts.{put_append, put_five}
use Rattle.key_section.specs.KeySection.{key_section, key_text}
use borrow.Author.Rules.{rules}
use Rattle.key_section.proofs.put_key_section.Statement.{statement}
use Rattle.key_section.proofs.put_key_section.Tie as tie

returns : tie.Need-returns
unfolding key_section key_text
returns c =
    put_append c.before.before.before.before.before.before.before.before.before.before.before.before.before.before.before.before.before.before.before.before.before.before.before.before.before.before.before.before.put_section_start-a.ensures
    (put_append c.before.before.before.before.before.before.before.before.before.before.before.before.before.before.before.before.before.before.before.before.before.before.before.before.put_beside_start-b.ensures
    (put_five c.before.before.before.before.before.before.before.before.before.before.before.before.before.before.before.before.before.before.before.before.put_key_table-c.ensures c.before.before.before.before.before.before.before.before.before.before.before.before.before.before.before.before.put_provision_plot-d.ensures c.before.before.before.before.before.before.before.before.before.before.before.before.put_beside_end-e.ensures c.before.before.before.before.before.before.put_only-f.ensures c.before.before.put_section_end.ensures))

pub put_key_section_spec : {M : Type 1} → statement M
put_key_section_spec =
    tie.close
    (tie.spec
    (λ c κs. search rules)
    (λ c κs. search rules)
    (λ c κs. search rules)
    (λ c κs. search rules)
    (λ c κs. search rules)
    (λ c κs. search rules)
    (λ c κs. search rules)
    (λ c. search rules)
    returns)
