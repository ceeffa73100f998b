-- Each question is asked as the definition has it. Assumes nothing.
use borrow.Author.Tests.{not-true, not-false}
use mir.Syntax.{w64}
use mathlib.Core.Path.{◌≡◌, sym, ◌∙◌}
use mathlib.Core.Bool.{true}
use borrow.Author.Rules.{rules, sfits_of}
use mir.Facts.{to_z-of_z}
use Rattle.rules.specs.Lists.{every}
use Rattle.scanning.specs.Parts.{fails, before}
use Rattle.cells.specs.Cells.{label_of, cells_of, is_within}
use Rattle.sheet.specs.Table.{label_due}
use Rattle.scanning.specs.Parts.{same_text_of}
use Rattle.line_checks.proofs.Wrong.{wrong_label, wrong_number, wrong_count, wrong_range, wrong_none}
use Rattle.line_checks.proofs.wrong_in.Statement.{statement}
use Rattle.line_checks.proofs.wrong_in.Tie as tie

-- the label is the one due
same : (c : tie.Else-not-has_label) → same_text_of (label_of c.before.before.before.before.args.line.now) (label_due c.before.before.before.before.args.d) ≡ true
same c = rw (← c.before.before.label_of.ensures) (sym c.before.has_label.ensures ∙ c.if-not-has_label.false)

-- the ranges asked are those of the line due
ranges : (c : tie.After-leading-ranges)
    → (c.leading-ranges.result.passed ≡ before (fails (is_within c.before.before.before.before.before.before.before.before.before.before.before.before.before.args.d.least c.before.before.before.before.before.before.before.before.before.before.before.before.before.args.d.most)) (cells_of c.before.before.before.before.before.before.before.before.before.before.before.before.before.args.line.now))
    × (c.leading-ranges.result.all ≡ every (is_within c.before.before.before.before.before.before.before.before.before.before.before.before.before.args.d.least c.before.before.before.before.before.before.before.before.before.before.before.before.before.args.d.most) (cells_of c.before.before.before.before.before.before.before.before.before.before.before.before.before.args.line.now))
ranges c =
    let e = rw (to_z-of_z {w = w64} (sfits_of c.before.before.struct_told-1.given.1.1.0.1), to_z-of_z {w = w64} (sfits_of c.before.struct_told-2-1.given.1.1.1.0.1)) at c.leading-ranges.ensures in
    (e.0, e.1.0)

returns : tie.Need-returns-then-not-has_label
returns c =
    wrong_label c.before.before.before.before.args.d c.before.before.before.before.args.line.now (rw (← c.before.before.label_of.ensures) (sym c.before.has_label.ensures ∙ c.if-not-has_label.true))

returns-2 : tie.Need-returns-then-not-numbers
returns-2 c =
    let s = c.before.before.before.before.before.before.before.before.args in
    let n = c.before.before.before.leading-numbers in
    wrong_number s.d s.line.now (same c.before.before.before.before) n.result.passed n.ensures.0 (sym n.ensures.1.0 ∙ not-true _ c.before.if-not-numbers.true)

returns-3 : tie.Need-returns-then-numbers-d
returns-3 c =
    let s = c.before.before.before.before.before.before.before.before.before.before.args in
    let n = c.before.before.before.before.before.leading-numbers in
    wrong_count s.d s.line.now (same c.before.before.before.before.before.before) n.result.passed n.ensures.0 (sym n.ensures.1.0 ∙ not-false _ c.before.before.before.if-not-numbers.false) c.if-numbers-d.true

returns-4 : tie.Need-returns-then-not-ranges
returns-4 c =
    let s = c.before.before.before.before.before.before.before.before.before.before.before.before.before.before.before.before.args in
    let n = c.before.before.before.before.before.before.before.before.before.before.before.leading-numbers in
    let r = ranges c.before.before.before in
    wrong_range s.d s.line.now (same c.before.before.before.before.before.before.before.before.before.before.before.before) n.result.passed n.ensures.0 (sym n.ensures.1.0 ∙ not-false _ c.before.before.before.before.before.before.before.before.before.if-not-numbers.false) c.before.before.before.before.before.before.if-numbers-d.false
    c.before.before.before.leading-ranges.result.passed r.0 (sym r.1 ∙ not-true _ c.before.if-not-ranges.true)

returns-5 : tie.Need-returns
returns-5 c =
    let s = c.before.before.before.before.before.before.before.before.before.before.before.before.before.before.before.args in
    let n = c.before.before.before.before.before.before.before.before.before.before.leading-numbers in
    let r = ranges c.before.before in
    wrong_none s.d s.line.now (same c.before.before.before.before.before.before.before.before.before.before.before) n.result.passed n.ensures.0 (sym n.ensures.1.0 ∙ not-false _ c.before.before.before.before.before.before.before.before.if-not-numbers.false) c.before.before.before.before.before.if-numbers-d.false
    (sym r.1 ∙ not-false _ c.if-not-ranges.false)

pub wrong_in_spec : {M : Type 1} → statement M
wrong_in_spec =
    tie.close
    (tie.spec
    (λ c κs. search rules)
    (λ c κs. search rules)
    returns
    (λ c κs. search rules)
    (λ c. search rules)
    returns-2
    returns-3
    (λ c κs. search rules)
    (λ c. search rules)
    returns-4
    returns-5)
