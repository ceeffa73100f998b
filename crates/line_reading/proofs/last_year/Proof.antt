-- By whether there are numbers. Assumes nothing.
use mathlib.Core.Path.{ap, ◌∙◌}
use borrow.Author.Rules.{rules, sfits_of}
use lib.IntN.{pos, nat_abs}
use lib.ListN.{get_or}
use mir.Facts.{to_z-of_z}
use mir.Syntax.{w64}
use Rattle.line_reading.proofs.LinesRead.{year_first}
use Rattle.line_reading.proofs.last_year.Statement.{statement}
use Rattle.line_reading.proofs.last_year.Tie as tie

returns : tie.Need-returns-then-count-eq0
returns c = rw c.if-count-eq0.true

returns-2 : tie.Need-returns
returns-2 c =
    let vs = c.before.before.before.args.list.now in
    let kept = to_z-of_z {w = w64} {z = get_or vs 0 (pos 0)} (sfits_of c.before.size_of-arg-1.given) in
    c.size_of.ensures ∙ ap nat_abs kept ∙ year_first vs c.before.before.before.args.count c.before.before.if-count-eq0.false

pub last_year_spec : {M : Type 1} → statement M
last_year_spec =
    tie.close (tie.spec returns (λ c. search rules) (λ c κs. search rules) returns-2)
