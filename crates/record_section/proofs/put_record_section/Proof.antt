-- The parts follow one another. Assumes nothing.
use Rattle.composing.proofs.Puts.{put_five}
use Rattle.record_section.specs.RecordSection.{record_section}
use borrow.Author.Rules.{rules}
use Rattle.record_section.proofs.put_record_section.Statement.{statement}
use Rattle.record_section.proofs.put_record_section.Tie as tie

returns : tie.Need-returns
unfolding record_section
returns c =
    put_five c.before.before.before.before.before.before.before.before.before.before.before.before.before.before.before.before.before.before.before.before.put_section_start-a.ensures c.before.before.before.before.before.before.before.before.before.before.before.before.before.before.before.before.put_web_digits_text-b.ensures c.before.before.before.before.before.before.before.before.before.before.before.before.put_record_digits-c.ensures c.before.before.before.before.before.before.put_only-d.ensures c.before.before.put_section_end.ensures

pub put_record_section_spec : {M : Type 1} → statement M
put_record_section_spec =
    tie.close
    (tie.spec
    (λ c κs. search rules)
    (λ c κs. search rules)
    (λ c κs. search rules)
    (λ c κs. search rules)
    (λ c κs. search rules)
    (λ c. search rules)
    returns)
