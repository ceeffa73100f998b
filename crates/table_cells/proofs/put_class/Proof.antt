-- The lines of the code's text are the classes of the marks, and none has a line feed in it: each by computing. Assumes nothing.
use mathlib.Core.Path.{refl}
use Rattle.rules.specs.Lists.{every}
use Rattle.entries.specs.Leading.{passing}
use Rattle.composing.proofs.Puts.{put_same}
use Rattle.lines.specs.Lines.{written, first_line, line_of}
use Rattle.lines.proofs.Lines.{line_is}
use Rattle.table_cells.specs.Cells.{class_names, class_name}
use borrow.Author.Rules.{rules}
use Rattle.table_cells.proofs.put_class.Statement.{statement}
use Rattle.table_cells.proofs.put_class.Tie as tie

returns : tie.Need-returns
unfolding class_names class_name written first_line line_of every passing
returns c = put_same (line_is class_names (written class_names) c.before.before.before.before.before.before.before.args.mark refl) c.before.before.put_line.ensures

pub put_class_spec : {M : Type 1} → statement M
put_class_spec =
    tie.close
    (tie.spec
    (λ c κs. search rules)
    (λ c. search rules)
    returns)
