-- The least and the most, between their texts. Assumes nothing.
use mir.Syntax.{w64}
use borrow.Author.Rules.{rules}
use borrow.Author.Rules.{rules, sfits_of}
use mir.Facts.{to_z-of_z}
use Rattle.composing.proofs.Puts.{put_five}
use Rattle.sheet_wording.specs.Problem.{range_text}
use Rattle.sheet_wording.proofs.put_range.Statement.{statement}
use Rattle.sheet_wording.proofs.put_range.Tie as tie

returns : tie.Need-returns
unfolding range_text
returns c =
    put_five c.before.before.before.before.before.before.before.before.before.before.before.before.before.before.before.before.before.before.before.before.before.before.before.before.put_bytes-least.ensures (rw (to_z-of_z {w = w64} (sfits_of c.before.before.before.before.before.before.before.before.before.before.before.before.before.before.before.before.before.before.before.before.struct_told-1.given.1.1.0.1)) at c.before.before.before.before.before.before.before.before.before.before.before.before.before.before.before.before.before.before.before.put_integer-to.ensures) c.before.before.before.before.before.before.before.before.before.before.before.before.before.put_bytes-most.ensures
    (rw (to_z-of_z {w = w64} (sfits_of c.before.before.before.before.before.before.before.before.before.struct_told-2-1.given.1.1.1.0.1)) at c.before.before.before.before.before.before.before.before.put_integer-end.ensures) c.before.before.put_bytes.ensures

pub put_range_spec : {M : Type 1} → statement M
put_range_spec =
    tie.close
    (tie.spec
    (λ c κs. search rules)
    (λ c κs. search rules)
    (λ c κs. search rules)
    (λ c κs. search rules)
    (λ c κs. search rules)
    (λ c. search rules)
    returns)
