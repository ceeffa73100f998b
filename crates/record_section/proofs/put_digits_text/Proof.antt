-- The parts follow one another. Assumes nothing.
use Rattle.composing.proofs.Puts.{put_three}
use Rattle.record_section.specs.RecordSection.{digits_text}
use borrow.Author.Rules.{rules}
use Rattle.record_section.proofs.put_digits_text.Statement.{statement}
use Rattle.record_section.proofs.put_digits_text.Tie as tie

returns : tie.Need-returns
unfolding digits_text
returns c =
    put_three c.before.before.before.before.before.before.before.before.before.before.before.before.put_bytes-a.ensures c.before.before.before.before.before.before.before.before.put_decimal-b.ensures c.before.before.put_bytes.ensures

pub put_digits_text_spec : {M : Type 1} → statement M
put_digits_text_spec =
    tie.close
    (tie.spec
    (λ c κs. search rules)
    (λ c κs. search rules)
    (λ c κs. search rules)
    (λ c. search rules)
    returns)
