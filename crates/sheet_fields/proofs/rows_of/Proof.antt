-- Each row is taken from where it stands in the list. Assumes nothing.
use mathlib.Core.Path.{ap, ◌∙◌}
use Prim.Native.Nat.{◌+◌}
use borrow.Author.Rules.{rules, sfits_of}
use lib.IntN.{pos, nat_abs}
use lib.ListN.{get_or}
use mir.Facts.{to_z-of_z}
use mir.Syntax.{w64}
use Rattle.sheet_fields.proofs.FieldSections.{rows_of_are}
use Rattle.sheet_fields.proofs.rows_of.Statement.{statement}
use Rattle.sheet_fields.proofs.rows_of.Tie as tie

returns : tie.Need-returns
returns c =
    let t = c.before in
    let u = t.before in
    let z = u.before in
    let g = z.before in
    let r = g.before in
    let i = r.before in
    let x = i.before in
    let m = x.before in
    let a = m.before.args in
    let w = a.k + 2 + m.cells_of.result + (a.k + 1) + (a.k + 1) in
    let weight = to_z-of_z {w = w64} {z = get_or a.list.now w (pos 0)} (sfits_of g.size_of-arg-1.given) in
    let tail = to_z-of_z {w = w64} {z = get_or a.list.now (w + 1 + (a.k + 1)) (pos 0)} (sfits_of t.size_of-arg-2-1.given) in
    rows_of_are a.k m.cells_of.result a.list.now x.sizes_of-exposures.result i.sizes_of-indices.result r.sizes_of-reporting.result z.size_of-weight.result u.sizes_of-ulae.result
    c.size_of-tail.result m.cells_of.ensures.0 x.sizes_of-exposures.ensures i.sizes_of-indices.ensures r.sizes_of-reporting.ensures (z.size_of-weight.ensures ∙ ap nat_abs weight)
    u.sizes_of-ulae.ensures (c.size_of-tail.ensures ∙ ap nat_abs tail)

pub rows_of_spec : {M : Type 1} → statement M
rows_of_spec =
    tie.close
    (tie.spec
    (λ c. search rules)
    (λ c. search rules)
    (λ c κs. search rules)
    (λ c. search rules)
    (λ c. search rules)
    (λ c. search rules)
    (λ c. search rules)
    (λ c κs. search rules)
    (λ c κs. search rules)
    (λ c κs. search rules)
    (λ c. search rules)
    (λ c. search rules)
    (λ c κs. search rules)
    (λ c κs. search rules)
    (λ c. search rules)
    (λ c. search rules)
    (λ c. search rules)
    (λ c κs. search rules)
    returns)
