-- The parts follow one another. Assumes nothing.
use Rattle.composing.proofs.Puts.{put_append}
use Rattle.place_words.specs.PlaceWords.{place_text}
use borrow.Author.Rules.{rules}
use Rattle.place_words.proofs.put_place.Statement.{statement}
use Rattle.place_words.proofs.put_place.Tie as tie

returns : tie.Need-returns
unfolding place_text
returns c =
    put_append c.before.before.before.before.before.before.put_field-a.ensures c.before.before.put_years.ensures

pub put_place_spec : {M : Type 1} → statement M
put_place_spec =
    tie.close
    (tie.spec
    (λ c κs. search rules)
    (λ c κs. search rules)
    (λ c. search rules)
    returns)
