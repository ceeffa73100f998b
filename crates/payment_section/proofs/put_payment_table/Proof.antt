-- The grid, and then its table. Assumes nothing.
use native.Mathlib.Omega.{arith}
use Rattle.payment_section.specs.Payments.{payment_table}
use Rattle.payment_section.proofs.Small.{payments_small}
use borrow.Author.Rules.{rules}
use Rattle.payment_section.proofs.put_payment_table.Statement.{statement}
use Rattle.payment_section.proofs.put_payment_table.Tie as tie

put-summed-table-requires : tie.Need-put_summed_table-requires
put-summed-table-requires c κs =
    let f = c.before.before.before.before.before.before.before in
    let s = f.before.before.before.before in
    (s.requires.0, (s.requires.1.0, (omega arith, rw f.fill_payments.ensures.0 (payments_small s.args.k s.args.figures.now s.requires.0 s.requires.1.1))))

returns : tie.Need-returns
unfolding payment_table
returns c =
    let p = c.before.before in
    let f = p.before.before.before.before.before.before.before.before in
    rw (f.fill_payments.ensures.0, f.fill_payments.ensures.1) at p.put_summed_table.ensures

pub put_payment_table_spec : {M : Type 1} → statement M
put_payment_table_spec =
    tie.close
    (tie.spec
    (λ c κs. search rules)
    (λ c. search rules)
    (λ c. search rules)
    put-summed-table-requires
    (λ c. search rules)
    returns)
