-- By whether there is a year. Assumes nothing.
use Rattle.composing.proofs.Puts.{put_none}
use Rattle.csv_rows.specs.Csv.{year_text}
use borrow.Author.Rules.{rules}
use Rattle.csv_rows.proofs.put_year.Statement.{statement}
use Rattle.csv_rows.proofs.put_year.Tie as tie

returns : tie.Need-returns-then-shown
unfolding year_text
returns c = rw c.before.before.before.before.if-shown.true c.before.before.put_decimal.ensures

returns-2 : tie.Need-returns
unfolding year_text
returns-2 c = rw c.if-shown.false (put_none _ _)

pub put_year_spec : {M : Type 1} → statement M
put_year_spec =
    tie.close
    (tie.spec
    (λ c κs. search rules)
    (λ c. search rules)
    returns
    returns-2)
