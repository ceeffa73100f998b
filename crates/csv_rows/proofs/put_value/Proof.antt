-- The value and the unit, one after another (put_five). Assumes nothing.
use mir.Facts.{to_z-of_z}
use Rattle.composing.proofs.Puts.{put_five}
use borrow.Author.Rules.{rules}
use Rattle.csv_rows.proofs.put_value.Statement.{statement}
use Rattle.csv_rows.proofs.put_value.Tie as tie

returns : tie.Need-returns
returns c =
    put_five
    c.before.before.before.before.before.before.before.before.before.before.before.before.before.before.before.before.before.before.put_byte-a.ensures
    (rw (to_z-of_z c.before.before.before.before.before.before.before.before.before.before.before.before.before.before.before.before.before.before.before.before.before.before.ranges.z) at c.before.before.before.before.before.before.before.before.before.before.before.before.before.before.put_integer-b.ensures)
    c.before.before.before.before.before.before.before.before.before.before.put_byte-c.ensures
    c.before.before.before.before.before.before.put_bytes-d.ensures
    c.before.before.put_byte.ensures

pub put_value_spec : {M : Type 1} → statement M
put_value_spec =
    tie.close
    (tie.spec
    (λ c κs. search rules)
    (λ c κs. search rules)
    (λ c κs. search rules)
    (λ c κs. search rules)
    (λ c κs. search rules)
    (λ c. search rules)
    returns)
