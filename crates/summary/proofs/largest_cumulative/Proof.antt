-- The larger of two largest sizes. Assumes nothing.
use Prim.Native.Nat.{◌+◌, ◌-◌, max}
use native.Mathlib.Omega.{arith}
use mathlib.Core.Path.{ap₂, ◌∙◌}
use Rattle.rules.specs.Record.{cells}
use Rattle.listing.specs.Starts.{starts_of}
use Rattle.figure_places.specs.Places.{added_at}
use Rattle.summary_figures.specs.Summary.{largest_cumulative}
use Rattle.summary_figures.proofs.Sections.{all_placed, spans}
use borrow.Author.Rules.{rules}
use Rattle.summary.proofs.largest_cumulative.Statement.{statement}
use Rattle.summary.proofs.largest_cumulative.Tie as tie

section-largest-requires : tie.Need-section_largest-given-requires
section-largest-requires c κs =
    let s = c.before in
    let k = s.args.k in
    let p = all_placed k s.requires.0 in
    rw (s.requires.1.1.0, c.cells_of-m.ensures.0) (spans k s.args.figures.now s.requires.0 s.requires.1.1.1 (added_at k).cumulatives (cells k) (omega arith) (omega arith))

section-largest-requires-2 : tie.Need-section_largest-completed-requires
section-largest-requires-2 c κs =
    let s = c.before.before in
    let k = s.args.k in
    let p = all_placed k s.requires.0 in
    rw (s.requires.1.0, c.before.cells_of-m.ensures.0) (spans k s.args.figures.now s.requires.0 s.requires.1.1.1 (starts_of k).completed (cells k - (k + 1)) (omega arith) (omega arith))

returns : tie.Need-returns
unfolding largest_cumulative
returns c =
    let s = c.before.before.before.before in
    let m = c.before.before.before.cells_of-m.ensures.0 in
    let first = rw (s.requires.1.1.0, m) at c.before.before.section_largest-given.ensures in
    let second = rw (s.requires.1.0, m) at c.before.section_largest-completed.ensures in
    (c.max.ensures ∙ ap₂ max first.0 second.0, omega (arith, c.max.ensures, first.1, second.1))

pub largest_cumulative_spec : {M : Type 1} → statement M
largest_cumulative_spec =
    tie.close
    (tie.spec
    (λ c κs. search rules)
    section-largest-requires
    (λ c. search rules)
    (λ c. omega (arith, all_placed c.before.before.args.k c.before.before.requires.0, c.before.cells_of-m.ensures.0))
    section-largest-requires-2
    (λ c κs. search rules)
    returns)
