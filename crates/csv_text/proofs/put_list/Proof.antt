-- The heading and the groups of sections follow one another (put_append, put_five). Assumes nothing.
use Rattle.composing.proofs.Puts.{put_append, put_five}
use Rattle.csv_text.specs.Csv.{list_lines}
use borrow.Author.Rules.{rules}
use Rattle.csv_text.proofs.put_list.Statement.{statement}
use Rattle.csv_text.proofs.put_list.Tie as tie

returns : tie.Need-returns
unfolding list_lines
returns c =
    put_append
    c.before.before.before.before.before.before.before.before.before.before.before.before.before.before.before.before.before.before.before.before.before.before.put_bytes-a.ensures
    (put_five
    c.before.before.before.before.before.before.before.before.before.before.before.before.before.before.before.before.before.before.put_separation-b.ensures
    c.before.before.before.before.before.before.before.before.before.before.before.before.before.before.put_completion-c.ensures
    c.before.before.before.before.before.before.before.before.before.before.put_expense-d.ensures
    c.before.before.before.before.before.before.put_ladder-e.ensures
    c.before.before.put_tails.ensures)

pub put_list_spec : {M : Type 1} → statement M
put_list_spec =
    tie.close
    (tie.spec
    (λ c κs. search rules)
    (λ c κs. search rules)
    (λ c κs. search rules)
    (λ c κs. search rules)
    (λ c κs. search rules)
    (λ c κs. search rules)
    (λ c κs. search rules)
    (λ c. search rules)
    returns)
