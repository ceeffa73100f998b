-- The parts follow one another. Assumes nothing.
use Rattle.composing.proofs.Puts.{put_three}
use Rattle.place_words.specs.PlaceWords.{cell_text}
use borrow.Author.Rules.{rules}
use Rattle.place_words.proofs.put_cell.Statement.{statement}
use Rattle.place_words.proofs.put_cell.Tie as tie

returns : tie.Need-returns
unfolding cell_text
returns c =
    put_three c.before.before.before.before.before.before.before.before.before.before.before.before.put_origin_year-a.ensures c.before.before.before.before.before.before.put_bytes-b.ensures c.before.before.put_development_year.ensures

pub put_cell_spec : {M : Type 1} → statement M
put_cell_spec =
    tie.close
    (tie.spec
    (λ c κs. search rules)
    (λ c κs. search rules)
    (λ c κs. search rules)
    (λ c. search rules)
    returns)
