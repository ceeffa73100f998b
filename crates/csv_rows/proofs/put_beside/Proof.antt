-- The name, the commas, the number and the unit follow one another (put_append, put_five). Assumes nothing.
use Rattle.composing.proofs.Puts.{put_append, put_five}
use Rattle.csv_rows.specs.Csv.{csv_beside}
use borrow.Author.Rules.{rules}
use Rattle.csv_rows.proofs.put_beside.Statement.{statement}
use Rattle.csv_rows.proofs.put_beside.Tie as tie

returns : tie.Need-returns
unfolding csv_beside
returns c =
    put_append
    c.before.before.before.before.before.before.before.before.before.before.before.before.before.before.before.before.before.before.before.before.before.before.before.before.put_bytes-a.ensures
    (put_five
    c.before.before.before.before.before.before.before.before.before.before.before.before.before.before.before.before.before.before.put_bytes-b.ensures
    c.before.before.before.before.before.before.before.before.before.before.before.before.before.before.put_decimal-c.ensures
    c.before.before.before.before.before.before.before.before.before.before.put_byte-d.ensures
    c.before.before.before.before.before.before.put_bytes-e.ensures
    c.before.before.put_byte.ensures)

pub put_beside_spec : {M : Type 1} → statement M
put_beside_spec =
    tie.close
    (tie.spec
    (λ c κs. search rules)
    (λ c κs. search rules)
    (λ c κs. search rules)
    (λ c κs. search rules)
    (λ c κs. search rules)
    (λ c κs. search rules)
    (λ c. search rules)
    returns)
