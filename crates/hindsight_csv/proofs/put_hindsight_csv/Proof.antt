-- The heading, the indices, the settings and the best one, one after another (put_four). Assumes nothing.
use Rattle.composing.proofs.Puts.{put_four}
use Rattle.hindsight_csv.specs.Csv.{hindsight_csv}
use borrow.Author.Rules.{rules}
use Rattle.hindsight_csv.proofs.put_hindsight_csv.Statement.{statement}
use Rattle.hindsight_csv.proofs.put_hindsight_csv.Tie as tie

returns : tie.Need-returns
unfolding hindsight_csv
returns c =
    put_four c.before.before.before.before.before.before.before.before.before.before.before.before.before.before.put_bytes-heading.ensures c.before.before.before.before.before.before.before.before.before.before.put_index_lines-reported.ensures
    c.before.before.before.before.before.before.put_settings-best.ensures c.before.before.put_best_line.ensures

pub put_hindsight_csv_spec : {M : Type 1} → statement M
put_hindsight_csv_spec =
    tie.close
    (tie.spec
    (λ c κs. search rules)
    (λ c κs. search rules)
    (λ c κs. search rules)
    (λ c κs. search rules)
    (λ c. search rules)
    returns)
