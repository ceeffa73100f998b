-- By whether the text has the mark; a text that has it has three bytes (mark_room). Assumes nothing.
use mathlib.Core.Path.{◌≡◌, ◌∙◌, sym}
use mathlib.Core.Bool.{true}
use native.Mathlib.Omega.{arith}
use borrow.Author.Rules.{rules}
use Rattle.laws.proofs.Lists.{from_place}
use Rattle.kinds.specs.Kinds.{marked}
use Rattle.sheet.specs.Sheet.{unmarked}
use Rattle.kinds.proofs.Mark.{mark_room}
use Rattle.sheet_reading.proofs.without_mark.Statement.{statement}
use Rattle.sheet_reading.proofs.without_mark.Tie as tie

has-mark : (c : tie.Then-is_marked) → marked c.before.before.before.args.text.now ≡ true
has-mark c = sym c.before.is_marked.ensures ∙ c.if-is_marked.true

sub-result : tie.Need-slice_bounds-result-count
sub-result c = omega (arith, mark_room c.before.before.before.args.text.now (has-mark c))

part-result-start : tie.Need-slice_bounds-result-start
part-result-start c = omega (arith, mark_room c.before.before.before.args.text.now (has-mark c))

returns : tie.Need-returns-then-is_marked
unfolding unmarked
returns c = rw (has-mark c.before) (from_place c.before.before.before.before.args.text.now 3)

returns-2 : tie.Need-returns
unfolding unmarked
returns-2 c = rw (sym c.before.is_marked.ensures ∙ c.if-is_marked.false)

pub without_mark_spec : {M : Type 1} → statement M
without_mark_spec =
    tie.close
    (tie.spec (λ c κs. search rules) sub-result part-result-start (λ c. search rules) returns returns-2)
