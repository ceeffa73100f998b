-- The list and the valuation follow one another (put_append). Assumes nothing.
use Rattle.composing.proofs.Puts.{put_append}
use Rattle.csv_text.specs.Csv.{csv_of}
use borrow.Author.Rules.{rules}
use Rattle.csv_text.proofs.put_csv.Statement.{statement}
use Rattle.csv_text.proofs.put_csv.Tie as tie

returns : tie.Need-returns
unfolding csv_of
returns c = put_append c.before.before.before.before.before.before.put_list-a.ensures c.before.before.put_valuation.ensures

pub put_csv_spec : {M : Type 1} → statement M
put_csv_spec =
    tie.close
    (tie.spec
    (λ c κs. search rules)
    (λ c κs. search rules)
    (λ c. search rules)
    returns)
