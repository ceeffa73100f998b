-- The parts follow one another. Assumes nothing.
use Rattle.place_words.specs.PlaceWords.{index_text}
use borrow.Author.Rules.{rules}
use Rattle.place_words.proofs.put_index.Statement.{statement}
use Rattle.place_words.proofs.put_index.Tie as tie

returns : tie.Need-returns
unfolding index_text
returns c =
    c.before.before.put_decimal.ensures

pub put_index_spec : {M : Type 1} → statement M
put_index_spec =
    tie.close
    (tie.spec
    (λ c. search rules)
    (λ c κs. search rules)
    (λ c. search rules)
    returns)
