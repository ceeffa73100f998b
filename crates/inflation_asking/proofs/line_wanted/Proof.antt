-- The content of the line at that number. Assumes nothing.
use mathlib.Core.Path.{ap, ◌∙◌}
use mathlib.Core.List.{[]}
use Prim.Native.Nat.{ℕ}
use lib.ListN.{get_or}
use Rattle.cells.specs.Cells.{content_of}
use Rattle.sheet.specs.Sheet.{lines, line_wanted}
use borrow.Author.Rules.{rules}
use Rattle.inflation_asking.proofs.line_wanted.Statement.{statement}
use Rattle.inflation_asking.proofs.line_wanted.Tie as tie

returns : tie.Need-returns
unfolding line_wanted
returns c =
    let ls = lines c.before.before.before.before.args.text.now in
    c.content_of.ensures ∙ ap content_of (c.before.line_at.ensures ∙ ap (λ (n : ℕ). get_or ls n []) c.before.before.lines_before.ensures.0)

pub line_wanted_spec : {M : Type 1} → statement M
line_wanted_spec = tie.close (tie.spec (λ c κs. search rules) (λ c κs. search rules) (λ c κs. search rules) returns)
