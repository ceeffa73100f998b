-- By the problem's number. Assumes nothing.
use borrow.Author.Rules.{rules}
use mathlib.Core.Path.{sym}
use mathlib.Core.List.{◌++◌}
use Rattle.composing.specs.Text.{ascii}
use Rattle.composing.proofs.Puts.{put_append, put_same, put_none}
use Rattle.sheet.specs.Table.{label_due}
use Rattle.sheet_wording.specs.Problem.{named, or_inflation, problem_words}
use Rattle.sheet_wording.proofs.Words.{words_between, no_words}
use Rattle.sheet_wording.proofs.put_words.Goals as goal

pub returns-in-1 : goal.returns-in-1
unfolding problem_words
returns-in-1 c =
    let a = c.args in
    rw c.in-1.is
    (put_same (words_between (ascii "a line that starts with ") (named (label_due a.d)) (or_inflation a.d ++ ascii " is due, not with ") (named a.word.now)) (put_append c.put_due_line-name.ensures c.put_named.ensures))

pub returns-in-2 : goal.returns-in-2
unfolding problem_words
returns-in-2 c = rw c.in-2.is c.put_number.ensures

pub returns-in-3 : goal.returns-in-3
unfolding problem_words
returns-in-3 c = rw c.in-3.is c.put_counts.ensures

pub returns-in-4 : goal.returns-in-4
unfolding problem_words
returns-in-4 c = rw c.in-4.is c.put_number-in-4.ensures

pub returns-in-5 : goal.returns-in-5
unfolding problem_words
returns-in-5 c = rw c.in-5.is c.put_due_line.ensures

pub returns-in-6 : goal.returns-in-6
unfolding problem_words
returns-in-6 c = rw c.in-6.is (put_append c.put_named-end.ensures c.put_bytes.ensures)

pub returns-in_default : goal.returns-in_default
returns-in_default c =
    let a = c.args in
    put_same (sym (no_words a.d a.cell a.word.now a.problem (search rules) (search rules) (search rules) (search rules) (search rules) (search rules))) (put_none _ _)
