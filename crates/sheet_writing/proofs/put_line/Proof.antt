-- The label, the numbers and the line feed, one after another. Assumes nothing.
use Rattle.composing.proofs.Puts.{put_three}
use Rattle.sheet.specs.Sheet.{line_of}
use borrow.Author.Rules.{rules}
use Rattle.sheet_writing.proofs.put_line.Statement.{statement}
use Rattle.sheet_writing.proofs.put_line.Tie as tie

returns : tie.Need-returns
unfolding line_of
returns c =
    put_three c.before.before.before.before.before.before.before.before.before.before.put_label-numbers.ensures c.before.before.before.before.before.before.put_numbers-end.ensures c.before.before.put_byte.ensures

pub put_line_spec : {M : Type 1} → statement M
put_line_spec =
    tie.close
    (tie.spec (λ c κs. search rules) (λ c κs. search rules) (λ c κs. search rules) (λ c. search rules) returns)
