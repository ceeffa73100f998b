-- The given figures, and the others from them. Assumes nothing.
use Prim.Native.Nat.{ℕ, ◌+◌, ◌≤◌}
use native.Mathlib.Nat.{le_trans}
use native.Mathlib.Omega.{arith}
use mathlib.Core.Path.{◌≡◌, refl}
use mathlib.Core.List.{List}
use lib.IntN.{ℤ}
use Rattle.page_figures.specs.Shown.{triangle_figures, given_figures, worked_triangles, worked_figures, shown_figures}
use Rattle.page_figures.proofs.Giving.{given_based}
use Rattle.page_figures.proofs.Working.{triangles_based, all_worked}
use borrow.Author.Rules.{rules}
use Rattle.page_figures.proofs.fill_figures.Statement.{statement}
use Rattle.page_figures.proofs.fill_figures.Tie as tie

-- the given figures
abbrev base : tie.Start → List ℤ
base s = given_figures s.args.k s.args.list.now s.args.exposures.now s.args.increments.now s.args.indices.now s.args.reporting.now s.args.ulae.now

fill-triangle-requires : tie.Need-fill_triangle-requires
fill-triangle-requires c κs =
    let s = c.before.before.before in
    (s.requires.0, (c.before.before.added_at-at.ensures, (s.requires.1.0, λ i. le_trans (s.requires.1.1.exposures i) (omega arith))))

-- what each call leaves
first : (c : tie.After-fill_triangle) → c.fill_triangle.new.out ≡ triangle_figures c.before.before.before.before.args.k c.before.before.before.before.args.list.now c.before.before.before.before.args.exposures.now c.before.before.before.before.args.increments.now
first c = c.fill_triangle.ensures

second : (c : tie.After-fill_assumptions) → c.fill_assumptions.new.out ≡ base c.before.before.before.before.before.before
unfolding given_figures
second c = rw (first c.before.before) at c.fill_assumptions.ensures

third : (c : tie.After-work_triangles) → c.work_triangles.new.out ≡ worked_triangles c.before.before.before.before.before.before.before.before.args.k (base c.before.before.before.before.before.before.before.before)
third c = rw (second c.before.before) at c.work_triangles.ensures

fourth : (c : tie.After-work_figures) → c.work_figures.new.out ≡ worked_figures c.before.before.before.before.before.before.before.before.before.before.args.k (worked_triangles c.before.before.before.before.before.before.before.before.before.before.args.k (base c.before.before.before.before.before.before.before.before.before.before))
fourth c = rw (third c.before.before) at c.work_figures.ensures

work-triangles-requires : tie.Need-work_triangles-requires
work-triangles-requires c κs =
    let s = c.before.before.before.before.before.before.before in
    (s.requires.0, (c.before.before.before.before.before.starts_of-starts.ensures, (c.before.before.before.before.before.before.added_at-at.ensures, rw (second c.before) (given_based s.args.k s.args.list.now s.args.exposures.now s.args.increments.now s.args.indices.now s.args.reporting.now s.args.ulae.now s.requires.0 s.requires.1.1))))

work-figures-requires : tie.Need-work_figures-requires
work-figures-requires c κs =
    let s = c.before.before.before.before.before.before.before.before.before in
    (s.requires.0, (c.before.before.before.before.before.before.before.starts_of-starts.ensures, (c.before.before.before.before.before.before.before.before.added_at-at.ensures, rw (third c.before) (triangles_based s.args.k (base s) s.requires.0 (given_based s.args.k s.args.list.now s.args.exposures.now s.args.increments.now s.args.indices.now s.args.reporting.now s.args.ulae.now s.requires.0 s.requires.1.1)))))

combine-requires : tie.Need-combine-requires
combine-requires c κs =
    let s = c.before.before.before.before.before.before.before.before.before.before.before in
    (s.requires.0, (c.before.before.before.before.before.before.before.before.before.starts_of-starts.ensures, (c.before.before.before.before.before.before.before.before.before.before.added_at-at.ensures, rw (fourth c.before) (all_worked s.args.k (base s) s.requires.0 (given_based s.args.k s.args.list.now s.args.exposures.now s.args.increments.now s.args.indices.now s.args.reporting.now s.args.ulae.now s.requires.0 s.requires.1.1)))))

returns : tie.Need-returns
unfolding shown_figures
returns c = rw (fourth c.before.before) at c.combine.ensures

pub fill_figures_spec : {M : Type 1} → statement M
fill_figures_spec =
    tie.close
    (tie.spec
    (λ c κs. search rules)
    (λ c κs. search rules)
    fill-triangle-requires
    (λ c κs. search rules)
    work-triangles-requires
    work-figures-requires
    combine-requires
    returns)
