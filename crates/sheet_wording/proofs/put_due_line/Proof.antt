-- By the row that is due. Assumes nothing.
use Rattle.composing.specs.Text.{ascii}
use Rattle.composing.proofs.Puts.{put_append, put_same}
use Rattle.sheet.specs.Table.{label_due}
use Rattle.sheet_wording.specs.Problem.{named}
use Rattle.sheet_wording.proofs.Words.{words_between, or_none, or_inflation_lem}
use borrow.Author.Rules.{rules}
use Rattle.sheet_wording.proofs.put_due_line.Statement.{statement}
use Rattle.sheet_wording.proofs.put_due_line.Tie as tie

returns : tie.Need-returns-then-d-eq3
returns c =
    let t = c.before.before.before.before.before.before.before.before.before.before in
    let a = c.before.before.before.before.before.before.before.before.before.before.before.before.before.before.before.args in
    rw (or_inflation_lem a.d t.if-d-eq3.true)
    (put_same (words_between a.before.now (named (label_due a.d)) (ascii " or `inflation`") a.after.now) (put_append c.before.before.before.before.before.before.put_due-end.ensures c.before.before.put_bytes.ensures))

returns-2 : tie.Need-returns
returns-2 c =
    let t = c.before.before.before.before in
    let a = c.before.before.before.before.before.before.before.before.before.args in
    rw (or_none a.d t.if-d-eq3.false) c.before.before.put_due.ensures

pub put_due_line_spec : {M : Type 1} → statement M
put_due_line_spec =
    tie.close
    (tie.spec
    (λ c κs. search rules)
    (λ c κs. search rules)
    (λ c. search rules)
    returns
    (λ c κs. search rules)
    (λ c. search rules)
    returns-2)
