-- The years, and then the value (put_append). Assumes nothing.
use mir.Facts.{to_z-of_z}
use Rattle.composing.proofs.Puts.{put_append}
use Rattle.csv_rows.specs.Csv.{csv_line}
use borrow.Author.Rules.{rules}
use Rattle.csv_rows.proofs.put_line.Statement.{statement}
use Rattle.csv_rows.proofs.put_line.Tie as tie

returns : tie.Need-returns
unfolding csv_line
returns c = put_append c.before.before.before.before.before.before.put_years-a.ensures (rw (to_z-of_z c.before.before.before.before.before.before.before.before.before.before.before.ranges.z) at c.before.before.put_value.ensures)

pub put_line_spec : {M : Type 1} → statement M
put_line_spec =
    tie.close
    (tie.spec
    (λ c κs. search rules)
    (λ c κs. search rules)
    (λ c. search rules)
    returns)
