-- Five texts, one after another. Assumes nothing.
use mathlib.Core.Path.{ap}
use mathlib.Core.List.{List, ◌++◌}
use Prim.Native.Nat.{ℕ}
use Rattle.composing.specs.Text.{ascii, decimal}
use Rattle.composing.proofs.Puts.{put_five, put_same}
use Rattle.sheet.specs.Table.{label_due}
use Rattle.sheet_wording.specs.Problem.{named, cell_text, range_text, number_text}
use Rattle.sheet_wording.proofs.Words.{words_between}
use borrow.Author.Rules.{rules}
use Rattle.sheet_wording.proofs.put_number.Statement.{statement}
use Rattle.sheet_wording.proofs.put_number.Tie as tie

returns : tie.Need-returns
unfolding number_text
returns c =
    let a = c.before.before.before.before.before.before.before.before.before.before.before.before.before.before.before.before.before.before.before.before.before.before.before.before.before.before.before.before.args in
    put_same (ap (λ (l : List ℕ). ascii "number " ++ (decimal a.cell ++ l)) (words_between (ascii " of ") (named (label_due a.d)) (ascii " is ") (cell_text a.word.now ++ range_text a.d)))
    (put_five c.before.before.before.before.before.before.before.before.before.before.before.before.before.before.before.before.before.before.before.before.before.before.put_bytes-number.ensures c.before.before.before.before.before.before.before.before.before.before.before.before.before.before.before.before.before.before.put_decimal-of.ensures c.before.before.before.before.before.before.before.before.before.before.put_due-is.ensures c.before.before.before.before.before.before.put_cell-range.ensures c.before.before.put_range.ensures)

pub put_number_spec : {M : Type 1} → statement M
put_number_spec =
    tie.close
    (tie.spec
    (λ c κs. search rules)
    (λ c κs. search rules)
    (λ c κs. search rules)
    (λ c κs. search rules)
    (λ c κs. search rules)
    (λ c. search rules)
    returns)
