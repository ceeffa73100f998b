-- One cell more (picked_more), whose place stands in the array. Assumes nothing.
use Rattle.std.proofs.Common.{◌≡◌, ◌∙◌, refl, ap, pos, get_or, w64, to_z, of_z, arith, rules}
use mir.Facts.{to_z-of_z}
use Rattle.std.proofs.lemmas.List.{get_or-take}
use Rattle.laws.proofs.Lists.{at_most}
use Rattle.placing.specs.Placing.{grid}
use Rattle.picked_table.specs.Picked.{picked}
use Rattle.picked_table.proofs.Picked.{picked_more}
use Rattle.picked_table.proofs.pick.Goals as goal
use Rattle.picked_table.proofs.pick.Goals.{After-from-place}

pub loop-p-init : goal.loop-p-init
unfolding picked
loop-p-init c = (refl, refl)

-- the place of a cell
here : (c : After-from-place) → c.from-place.result ≡ get_or c.args.places.now c.loop-p.p 0
here c = search (rules, get_or-take)

pub bounds-figures-place : goal.bounds-figures-place
bounds-figures-place c = omega (arith, here (goal.at.bounds-figures-place c).After-from-place, at_most 0 47 c.args.places.now c.requires.1 c.loop-p.p)

pub loop-p-preserved : goal.loop-p-preserved
loop-p-preserved c =
    let t = (goal.at.loop-p-preserved c).After-from-place in
    let value : to_z w64 (of_z w64 (get_or c.args.figures.now c.from-place.result (pos 0))) ≡ get_or c.args.figures.now (get_or c.args.places.now c.loop-p.p 0) (pos 0) =
    to_z-of_z {w = w64} {z = get_or c.args.figures.now c.from-place.result (pos 0)} (search rules) ∙ ap (λ i. get_or c.args.figures.now i (pos 0)) (here t) in
    rw value
    (picked_more c.args.figures.now c.args.places.now c.args.kinds.now c.loop-p.p (grid c.args.values.now c.args.styles.now) c.loop-p.values c.loop-p.styles c.loop-p.invariant)

pub returns : goal.returns
returns c =
    let e : c.loop-p.p ≡ c.args.n = search rules in
    rw e at c.loop-p.invariant
