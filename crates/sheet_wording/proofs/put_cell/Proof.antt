-- By whether the cell is empty. Assumes nothing.
use borrow.Author.Tests.{eq-eqb, ne_eqb}
use lib.ListN.{length}
use Rattle.sheet_wording.specs.Problem.{cell_text}
use borrow.Author.Rules.{rules}
use Rattle.sheet_wording.proofs.put_cell.Statement.{statement}
use Rattle.sheet_wording.proofs.put_cell.Tie as tie

returns : tie.Need-returns-then-word-eq0
unfolding cell_text
returns c =
    rw (eq-eqb (length c.before.before.before.before.before.before.before.before.before.args.word.now) 0 c.before.before.before.before.before.before.if-word-eq0.true) c.before.before.put_bytes.ensures

returns-2 : tie.Need-returns
unfolding cell_text
returns-2 c =
    rw (ne_eqb (length c.before.before.before.before.before.before.before.args.word.now) 0 c.before.before.before.before.if-word-eq0.false) c.before.before.put_named.ensures

pub put_cell_spec : {M : Type 1} → statement M
put_cell_spec =
    tie.close
    (tie.spec
    (λ c κs. search rules)
    (λ c. search rules)
    returns
    (λ c κs. search rules)
    (λ c. search rules)
    returns-2)
