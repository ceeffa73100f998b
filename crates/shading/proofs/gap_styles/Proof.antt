-- The loop's invariant: the first m cells have their styles (filled_more). Assumes nothing.
use Prim.Native.Nat.{ℕ, ◌+◌, ◌-◌, ◌≤◌}
use native.Mathlib.Omega.{arith}
use mathlib.Core.Path.{◌≡◌, ap, ◌∙◌}
use lib.IntN.{nat_abs}
use mir.Syntax.{w64}
use mir.Facts.{to_z-of_z}
use Rattle.rules.specs.Lists.{up_to, padded}
use Rattle.rules.specs.Record.{cells}
use Rattle.laws.proofs.Padded.{filled_none, filled_more}
use Rattle.table_cells.specs.Cells.{styled}
use Rattle.vectors.specs.Vectors.{figure_at}
use Rattle.shading.specs.Shading.{gap_style}
use Rattle.shading.proofs.Styles.{gap_style_lem, Inside, inside, Small, small}
use borrow.Author.Rules.{rules, sfits_of}
use Rattle.shading.proofs.gap_styles.Statement.{statement}
use Rattle.shading.proofs.gap_styles.Tie as tie

abbrev invariant-loop : tie.invariant-loop-m
invariant-loop k figures n at styles₀ m₀ styles m = (m ≤ n) × (styles ≡ padded 136 0 (up_to (gap_style k figures) m))

abbrev decreases-loop : tie.decreases-loop-m
decreases-loop k figures n at styles₀ m₀ styles m = n - m

-- where the cells stand, and their sizes
places : (c : tie.After-added_at-at invariant-loop decreases-loop) → Inside c.before.before.args.k c.added_at-at.result
places c = inside c.before.before.args.k c.added_at-at.result c.before.before.requires.0 c.added_at-at.ensures

sizes : (c : tie.After-added_at-at invariant-loop decreases-loop) → Small c.before.before.args.k c.added_at-at.result c.before.before.args.figures.now
sizes c = small c.before.before.args.k c.added_at-at.result c.before.before.args.figures.now c.before.before.requires.0 c.added_at-at.ensures c.before.before.requires.1

loop-holds : tie.Need-loop-m-init invariant-loop decreases-loop
loop-holds c = (omega arith, filled_none 136 0 (gap_style c.before.before.args.k c.before.before.args.figures.now))

-- the size of the fitted value of a turn
fitted : (c : tie.After-size_of invariant-loop decreases-loop)
    → c.size_of.result
    ≡ nat_abs (figure_at c.before.before.before.before.before.before.before.args.figures.now (c.before.before.before.before.before.added_at-at.result.fitted + c.before.before.before.before.loop-m.m))
fitted c = rw (to_z-of_z {w = w64} (sfits_of c.before.size_of-arg-1.given)) at c.size_of.ensures

gap-mark-requires : tie.Need-gap_mark-requires invariant-loop decreases-loop
gap-mark-requires c κs =
    let f = c.before.before in
    let l = f.before.before.before.before in
    let b = l.before in
    let n = b.before.cells_of-n.ensures.0 in
    let z = sizes b in
    (rw (fitted f) (z.fitted l.loop-m.m (omega (arith, n))), rw (to_z-of_z {w = w64} (sfits_of c.gap_mark-arg-1.given)) (z.gaps l.loop-m.m (omega (arith, n))))

loop-again : tie.Need-loop-m-preserved invariant-loop decreases-loop
loop-again c =
    let f = c.before.before.before.before in
    let l = f.before.before.before.before in
    let b = l.before in
    let s = b.before.before in
    let xs = s.args.figures.now in
    let n = b.before.cells_of-n.ensures.0 in
    let p = places b in
    let gap = to_z-of_z {w = w64} {z = figure_at xs (b.added_at-at.result.gaps + l.loop-m.m)} (sfits_of c.before.before.gap_mark-arg-1.given) in
    let mark = rw (fitted f, gap) at c.before.gap_mark.ensures.0 in
    let style = c.styled.ensures ∙ ap (λ (z : ℕ). styled z 2) mark ∙ gap_style_lem s.args.k xs b.added_at-at.result l.loop-m.m b.added_at-at.ensures in
    (omega arith, rw (style, l.loop-m.invariant.1) (filled_more 136 0 (gap_style s.args.k xs) l.loop-m.m (omega (arith, n, p.most))))

returns : tie.Need-returns invariant-loop decreases-loop
returns c =
    let s = c.before.before.before.before in
    let e : c.before.loop-m.m ≡ cells s.args.k = omega (arith, c.before.before.before.cells_of-n.ensures.0) in
    rw e at c.before.loop-m.invariant.1

pub gap_styles_spec : {M : Type 1} → statement M
gap_styles_spec =
    tie.close
    (tie.spec
    invariant-loop
    decreases-loop
    (λ c κs. search rules)
    (λ c κs. search rules)
    loop-holds
    (λ c. let p = places c.before.before.before in omega arith)
    (λ c. let p = places c.before.before.before in omega arith)
    (λ c. let p = places c.before.before.before in omega arith)
    (λ c κs. search rules)
    (λ c. let p = places c.before.before.before.before.before.before in omega arith)
    (λ c. let p = places c.before.before.before.before.before.before in omega arith)
    (λ c. let p = places c.before.before.before.before.before.before in omega arith)
    gap-mark-requires
    (λ c κs. (omega (arith, c.gap_mark.ensures.1), omega arith))
    (λ c. omega arith)
    (λ c. omega arith)
    (λ c. omega arith)
    loop-again
    returns)
