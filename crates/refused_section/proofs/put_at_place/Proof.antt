-- The parts follow one another. Assumes nothing.
use borrow.Author.Tests.{eq-eqb, ne_eqb}
use Rattle.composing.proofs.Puts.{put_none}
use Rattle.refused_section.specs.RefusedSection.{at_place}
use borrow.Author.Rules.{rules}
use Rattle.refused_section.proofs.put_at_place.Statement.{statement}
use Rattle.refused_section.proofs.put_at_place.Tie as tie

returns : tie.Need-returns-then-f-eq-NOWHERE
unfolding at_place
returns c =
    rw (eq-eqb _ _ c.if-f-eq-NOWHERE.true) (put_none _ _)

returns-2 : tie.Need-returns
unfolding at_place
returns-2 c =
    rw (ne_eqb _ _ c.before.before.before.before.if-f-eq-NOWHERE.false) c.before.before.put_place_words.ensures

pub put_at_place_spec : {M : Type 1} → statement M
put_at_place_spec =
    tie.close
    (tie.spec
    returns
    (λ c κs. search rules)
    (λ c. search rules)
    returns-2)
