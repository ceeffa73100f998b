-- The parts follow one another. Assumes nothing.
use Rattle.composing.proofs.Puts.{put_three}
use Rattle.refused_section.specs.RefusedSection.{place_words}
use borrow.Author.Rules.{rules}
use Rattle.refused_section.proofs.put_place_words.Statement.{statement}
use Rattle.refused_section.proofs.put_place_words.Tie as tie

returns : tie.Need-returns
unfolding place_words
returns c =
    put_three c.before.before.before.before.before.before.before.before.before.before.before.before.before.before.put_either-a.ensures c.before.before.before.before.before.before.before.before.before.before.put_place-b.ensures c.before.before.put_either.ensures

pub put_place_words_spec : {M : Type 1} → statement M
put_place_words_spec =
    tie.close
    (tie.spec
    (λ c κs. search rules)
    (λ c κs. search rules)
    (λ c κs. search rules)
    (λ c. search rules)
    returns)
