-- The name, a comma, the setting and the rest of the line, one after another (put_four). Assumes nothing.
use mir.Facts.{to_z-of_z}
use Rattle.composing.proofs.Puts.{put_four}
use Rattle.hindsight_csv.specs.Csv.{setting_line}
use borrow.Author.Rules.{rules}
use Rattle.hindsight_csv.proofs.put_setting_line.Statement.{statement}
use Rattle.hindsight_csv.proofs.put_setting_line.Tie as tie

returns : tie.Need-returns
unfolding setting_line
returns c =
    put_four c.before.before.before.before.before.before.before.before.before.before.before.before.before.before.before.before.put_bytes-comma.ensures c.before.before.before.before.before.before.before.before.before.before.before.before.put_byte-number.ensures c.before.before.before.before.before.before.before.before.put_decimal-rest.ensures
    (rw (to_z-of_z c.before.before.before.before.before.before.before.before.before.before.before.before.before.before.before.before.before.before.before.before.before.ranges.z) at c.before.before.put_line.ensures)

pub put_setting_line_spec : {M : Type 1} → statement M
put_setting_line_spec =
    tie.close
    (tie.spec
    (λ c κs. search rules)
    (λ c κs. search rules)
    (λ c κs. search rules)
    (λ c κs. search rules)
    (λ c. search rules)
    returns)
