-- The heading, and then the positions (put_append). Assumes nothing.
use native.Mathlib.Omega.{arith}
use Rattle.composing.proofs.Puts.{put_append}
use Rattle.rules.specs.History.{position_count}
use Rattle.history_csv.specs.Csv.{history_csv}
use borrow.Author.Rules.{rules}
use Rattle.history_csv.proofs.put_history_csv.Statement.{statement}
use Rattle.history_csv.proofs.put_history_csv.Tie as tie

put-positions-requires : tie.Need-put_positions-requires
put-positions-requires c κs = (omega (arith, c.before.before.before.before.before.before.before.before.requires.years_most, c.before.before.before.before.before.before.before.before.requires.width_fits), (c.before.before.before.before.before.before.before.before.requires.width_most_lem, c.before.before.before.before.before.before.before.before.requires.first_most))

returns : tie.Need-returns
unfolding history_csv position_count
returns c = put_append c.before.before.before.before.before.before.put_bytes-heading.ensures c.before.before.put_positions.ensures

pub put_history_csv_spec : {M : Type 1} → statement M
put_history_csv_spec =
    tie.close
    (tie.spec
    (λ c κs. search rules)
    (λ c. search rules)
    (λ c. search rules)
    put-positions-requires
    (λ c. search rules)
    returns)
