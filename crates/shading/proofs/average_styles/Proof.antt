-- The loop's invariant: the first m cells have their styles (filled_more). Assumes nothing.
use Prim.Native.Nat.{ℕ, ◌+◌, ◌-◌, ◌≤◌}
use native.Mathlib.Omega.{arith}
use mathlib.Core.Path.{◌≡◌, ap, ◌∙◌}
use mir.Syntax.{w64}
use mir.Facts.{to_z-of_z}
use Rattle.rules.specs.Lists.{up_to, padded}
use Rattle.rules.specs.Record.{cells}
use Rattle.laws.proofs.Padded.{filled_none, filled_more}
use Rattle.signed_sums.specs.Small.{most_figure}
use Rattle.table_cells.specs.Cells.{styled}
use Rattle.vectors.specs.Vectors.{figure_at}
use Rattle.shading.specs.Shading.{largest_size, average_style}
use Rattle.shading.proofs.Steps.{size_least, size_most}
use Rattle.shading.proofs.Styles.{average_style_lem, Inside, inside, Small, small}
use borrow.Author.Rules.{rules, sfits_of}
use Rattle.shading.proofs.average_styles.Statement.{statement}
use Rattle.shading.proofs.average_styles.Tie as tie

abbrev invariant-loop : tie.invariant-loop-m
invariant-loop k figures n at most styles₀ m₀ styles m = (m ≤ n) × (styles ≡ padded 136 0 (up_to (average_style k figures) m))

abbrev decreases-loop : tie.decreases-loop-m
decreases-loop k figures n at most styles₀ m₀ styles m = n - m

-- where the cells stand, and the largest size
places : (c : tie.After-added_at-at invariant-loop decreases-loop) → Inside c.before.before.args.k c.added_at-at.result
places c = inside c.before.before.args.k c.added_at-at.result c.before.before.requires.0 c.added_at-at.ensures

sizes : (c : tie.After-added_at-at invariant-loop decreases-loop) → Small c.before.before.args.k c.added_at-at.result c.before.before.args.figures.now
sizes c = small c.before.before.args.k c.added_at-at.result c.before.before.args.figures.now c.before.before.requires.0 c.added_at-at.ensures c.before.before.requires.1

most-is : (c : tie.After-largest_size-most invariant-loop decreases-loop) → c.largest_size-most.result ≡ largest_size 0 (cells c.before.before.before.args.k) c.before.before.before.args.figures.now
most-is c = rw c.before.before.cells_of-n.ensures.0 at c.largest_size-most.ensures

loop-holds : tie.Need-loop-m-init invariant-loop decreases-loop
loop-holds c = (omega arith, filled_none 136 0 (average_style c.before.before.before.args.k c.before.before.before.args.figures.now))

average-mark-requires : tie.Need-average_mark-requires invariant-loop decreases-loop
average-mark-requires c κs =
    let l = c.before.before.before.before in
    let b = l.before in
    let s = b.before.before.before in
    let xs = s.args.figures.now in
    let n = b.before.before.cells_of-n.ensures.0 in
    let kept = to_z-of_z {w = w64} {z = figure_at xs l.loop-m.m} (sfits_of c.average_mark-arg-in-loop-m-1.given) in
    let z : 0 + l.loop-m.m ≡ l.loop-m.m = omega arith in (
      rw (kept, most-is b) (rw z at (size_least 0 (cells s.args.k) xs l.loop-m.m (omega (arith, n)))),
      rw (most-is b) (size_most most_figure 0 (cells s.args.k) xs (sizes b.before).averages),
    )

loop-again : tie.Need-loop-m-preserved invariant-loop decreases-loop
loop-again c =
    let l = c.before.before.before.before.before.before in
    let b = l.before in
    let s = b.before.before.before in
    let xs = s.args.figures.now in
    let n = b.before.before.cells_of-n.ensures.0 in
    let p = places b.before in
    let payment = to_z-of_z {w = w64} {z = figure_at xs (b.before.added_at-at.result.increments + l.loop-m.m)} (sfits_of c.before.before.before.average_mark-arg-1.given) in
    let average = to_z-of_z {w = w64} {z = figure_at xs l.loop-m.m} (sfits_of c.before.before.average_mark-arg-in-loop-m-1.given) in
    let mark = rw (payment, average) at c.before.average_mark.ensures.0 in
    let style = c.styled.ensures ∙ ap (λ (z : ℕ). styled z 2) mark ∙ average_style_lem s.args.k xs b.before.added_at-at.result b.largest_size-most.result l.loop-m.m b.before.added_at-at.ensures (most-is b) in
    (omega arith, rw (style, l.loop-m.invariant.1) (filled_more 136 0 (average_style s.args.k xs) l.loop-m.m (omega (arith, n, p.most))))

returns : tie.Need-returns invariant-loop decreases-loop
returns c =
    let s = c.before.before.before.before.before in
    let e : c.before.loop-m.m ≡ cells s.args.k = omega (arith, c.before.before.before.before.cells_of-n.ensures.0) in
    rw e at c.before.loop-m.invariant.1

pub average_styles_spec : {M : Type 1} → statement M
average_styles_spec =
    tie.close
    (tie.spec
    invariant-loop
    decreases-loop
    (λ c κs. search rules)
    (λ c κs. search rules)
    (λ c κs. omega arith)
    loop-holds
    (λ c. let p = places c.before.before.before.before in omega arith)
    (λ c. let p = places c.before.before.before.before in omega arith)
    (λ c. let p = places c.before.before.before.before in omega arith)
    (λ c. omega arith)
    (λ c. omega arith)
    average-mark-requires
    (λ c κs. (omega (arith, c.average_mark.ensures.1), omega arith))
    (λ c. omega arith)
    (λ c. omega arith)
    (λ c. omega arith)
    loop-again
    returns)
