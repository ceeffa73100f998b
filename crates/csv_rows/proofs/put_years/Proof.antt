-- The name and the years, one after another (put_five). Assumes nothing.
use Rattle.composing.proofs.Puts.{put_five}
use borrow.Author.Rules.{rules}
use Rattle.csv_rows.proofs.put_years.Statement.{statement}
use Rattle.csv_rows.proofs.put_years.Tie as tie

returns : tie.Need-returns
returns c =
    put_five
    c.before.before.before.before.before.before.before.before.before.before.before.before.before.before.before.before.before.before.put_bytes-a.ensures
    c.before.before.before.before.before.before.before.before.before.before.before.before.before.before.put_byte-b.ensures
    c.before.before.before.before.before.before.before.before.before.before.put_year-c.ensures
    c.before.before.before.before.before.before.put_byte-d.ensures
    c.before.before.put_year.ensures

pub put_years_spec : {M : Type 1} → statement M
put_years_spec =
    tie.close
    (tie.spec
    (λ c κs. search rules)
    (λ c κs. search rules)
    (λ c κs. search rules)
    (λ c κs. search rules)
    (λ c κs. search rules)
    (λ c. search rules)
    returns)
