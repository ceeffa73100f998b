-- The first cell is compared with each name in turn. Assumes nothing.
use mathlib.Core.Path.{sym, ◌∙◌}
use native.Mathlib.Omega.{arith}
use Rattle.inflation_line.proofs.Lines.{is_flat, is_fading, is_shock, no_shape}
use borrow.Author.Rules.{rules}
use Rattle.inflation_line.proofs.shape_at.Statement.{statement}
use Rattle.inflation_line.proofs.shape_at.Tie as tie

returns : tie.Need-returns-then-same_text
returns c =
    let s = c.before in
    (is_flat _ _ s.before.before.before.cell_at-name.ensures (sym s.same_text.ensures ∙ c.if-same_text.true), omega arith)

returns-2 : tie.Need-returns-then-same_text-2
returns-2 c =
    let t = c.before in
    let s = t.before.before.before.before in
    (is_fading _ _ s.before.before.before.cell_at-name.ensures (sym s.same_text.ensures ∙ t.before.before.before.if-same_text.false) (sym t.same_text-2.ensures ∙ c.if-same_text-2.true), omega arith)

returns-3 : tie.Need-returns-then-same_text-3
returns-3 c =
    let u = c.before in
    let t = u.before.before.before.before in
    let s = t.before.before.before.before in
    (is_shock _ _ s.before.before.before.cell_at-name.ensures (sym s.same_text.ensures ∙ t.before.before.before.if-same_text.false) (sym t.same_text-2.ensures ∙ u.before.before.before.if-same_text-2.false) (sym u.same_text-3.ensures ∙ c.if-same_text-3.true), omega arith)

returns-4 : tie.Need-returns
returns-4 c =
    let u = c.before in
    let t = u.before.before.before.before in
    let s = t.before.before.before.before in
    (no_shape _ _ s.before.before.before.cell_at-name.ensures (sym s.same_text.ensures ∙ t.before.before.before.if-same_text.false) (sym t.same_text-2.ensures ∙ u.before.before.before.if-same_text-2.false) (sym u.same_text-3.ensures ∙ c.if-same_text-3.false), omega arith)

pub shape_at_spec : {M : Type 1} → statement M
shape_at_spec =
    tie.close
    (tie.spec
    (λ c κs. search rules)
    (λ c κs. search rules)
    returns
    (λ c κs. search rules)
    returns-2
    (λ c κs. search rules)
    returns-3
    returns-4)
