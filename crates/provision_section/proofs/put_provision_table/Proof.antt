-- The columns are sections of the figures (columned). Assumes nothing.
use Prim.Native.Nat.{◌+◌}
use native.Mathlib.Omega.{arith}
use Rattle.rules.specs.Lists.{padded}
use Rattle.column_table.proofs.Places.{standing, columned}
use Rattle.provision_section.specs.Provisions.{provision_words, provision_starts, provision_decimals, provision_table}
use borrow.Author.Rules.{rules}
use Rattle.provision_section.proofs.put_provision_table.Statement.{statement}
use Rattle.provision_section.proofs.put_provision_table.Tie as tie

put-column-table-requires : tie.Need-put_column_table-requires
put-column-table-requires c κs =
    let s = c.before.before.before.before.before.before.before.before.before.before in
    let k = s.args.k in
    let here = standing k s.requires.0 in
    rw (c.before.before.before.before.before.before.before.before.starts_of-s.ensures, c.before.before.before.before.before.before.before.added_at-a.ensures)
    (columned k s.args.first (k + 1) 11 _ _ s.args.figures.now s.requires.0 (omega arith) (omega arith) (omega arith) (omega arith) s.requires.1.1 (omega arith) (omega arith))

returns : tie.Need-returns
unfolding provision_table provision_words provision_starts provision_decimals padded
returns c = rw (c.before.before.before.before.before.before.before.before.before.before.before.starts_of-s.ensures, c.before.before.before.before.before.before.before.before.before.before.added_at-a.ensures) at c.before.before.put_column_table.ensures

pub put_provision_table_spec : {M : Type 1} → statement M
put_provision_table_spec =
    tie.close
    (tie.spec
    (λ c κs. search rules)
    (λ c κs. search rules)
    (λ c. search rules)
    put-column-table-requires
    (λ c. search rules)
    returns)
