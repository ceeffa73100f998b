-- The parts follow one another. Assumes nothing.
use Rattle.composing.proofs.Puts.{put_three}
use Rattle.finding_table.specs.FindingTable.{finding_table}
use borrow.Author.Rules.{rules}
use Rattle.finding_table.proofs.put_finding_table.Statement.{statement}
use Rattle.finding_table.proofs.put_finding_table.Tie as tie

returns : tie.Need-returns
unfolding finding_table
returns c =
    put_three c.before.before.before.before.before.before.before.before.before.before.put_record_table-a.ensures c.before.before.before.before.before.before.put_triangle_table-b.ensures c.before.before.put_reserve_table.ensures

pub put_finding_table_spec : {M : Type 1} → statement M
put_finding_table_spec =
    tie.close
    (tie.spec
    (λ c κs. search rules)
    (λ c κs. search rules)
    (λ c κs. search rules)
    (λ c. search rules)
    returns)
