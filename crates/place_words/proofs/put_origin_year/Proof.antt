-- The parts follow one another. Assumes nothing.
use Rattle.composing.proofs.Puts.{put_append}
use Rattle.place_words.specs.PlaceWords.{origin_text}
use borrow.Author.Rules.{rules}
use Rattle.place_words.proofs.put_origin_year.Statement.{statement}
use Rattle.place_words.proofs.put_origin_year.Tie as tie

returns : tie.Need-returns
unfolding origin_text
returns c =
    put_append c.before.before.before.before.before.before.put_bytes-a.ensures c.before.before.put_decimal.ensures

pub put_origin_year_spec : {M : Type 1} → statement M
put_origin_year_spec =
    tie.close
    (tie.spec
    (λ c κs. search rules)
    (λ c. search rules)
    (λ c κs. search rules)
    (λ c. search rules)
    returns)
