-- A figure more (largest_more). Assumes nothing.
use Rattle.std.proofs.Common.{◌≡◌, ◌+◌, ◌∙◌, ap₂, nat_abs, max, rules}
use Rattle.std.proofs.lemmas.List.{get_or-take, get_or-drop}
use Rattle.table_cells.proofs.Cells.{largest_none, largest_more}
use Rattle.vectors.specs.Vectors.{figure_at}
use Rattle.shading.specs.Shading.{largest_size}
use Rattle.shading.proofs.largest_size.Goals as goal

pub loop-x-init : goal.loop-x-init
loop-x-init c = largest_none _

pub loop-x-preserved : goal.loop-x-preserved
loop-x-preserved c =
    let here : c.size_of.result ≡ nat_abs (figure_at c.args.figures.now (c.args.start + c.loop-x.x-index)) = search (rules, get_or-take, get_or-drop) in
    c.max-most.ensures ∙ ap₂ max c.loop-x.invariant here ∙ largest_more (λ m. nat_abs (figure_at c.args.figures.now (c.args.start + m))) c.loop-x.x-index

pub returns : goal.returns
unfolding largest_size
returns c =
    let e : c.loop-x.x-index ≡ c.args.n = search rules in
    rw e at c.loop-x.invariant
