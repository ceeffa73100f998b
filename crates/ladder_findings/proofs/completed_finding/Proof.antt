-- What is read again are the figures' own (read_again), and so are the development factors (Figures). Assumes nothing.
use native.Mathlib.Omega.{arith}
use mathlib.Core.Path.{◌≡◌, refl, ◌∙◌}
use mathlib.Core.Bool.{true}
use Rattle.rules.specs.Record.{Figures, figures_of}
use Rattle.rules.specs.Triangle.{cumulatives_pass}
use Rattle.rules.specs.Results.{development_in}
use Rattle.rules.specs.Engine.{development_passes}
use Rattle.reading.specs.Reading.{Sound}
use Rattle.outcomes.proofs.Passed as passed
use Rattle.outcomes.proofs.Said.{development_yes, completed_no}
use Rattle.outcomes.proofs.Passed.{answered}
use Rattle.ladder_findings.proofs.Figures.{factors_ready, factors_found, cell_ready, completed_is}
use Rattle.ladder_findings.proofs.completed_finding.Statement.{statement}
use Rattle.ladder_findings.proofs.completed_finding.Tie as tie

run : (s : tie.Start) → passed.Late s.args.year s.args.packed.now
run s = answered s.args.year s.args.packed.now 14 (omega arith) s.requires

read-again-requires : tie.Need-read_again-requires
read-again-requires c κs =
    let s = c.before.before.before.before.before.before.before.before in
    let year = s.args.year in
    let packed = s.args.packed.now in
    (passed.opening year packed (run s), (passed.fields year packed (run s), (passed.cumulatives year packed (run s), (refl, (refl, (refl, (refl, refl)))))))

abbrev start : tie.After-read_again → tie.Start
start c = c.before.before.before.before.before.before.before.before.before

abbrev F : tie.After-read_again → Figures
F c = figures_of (start c).args.packed.now

good : (c : tie.After-read_again) → Sound (F c)
good c =
    let s = start c in
    passed.sound s.args.year s.args.packed.now (run s) (λ i. omega (arith, c.before.before.before.before.before.before.before.before.shared_slice_known-1.given i))

six : (c : tie.After-read_again) → cumulatives_pass (F c).k (F c).increments ≡ true
six c = let s = start c in passed.cumulatives s.args.year s.args.packed.now (run s)

thirteen : (c : tie.After-read_again) → development_passes (F c) ≡ true
thirteen c = let s = start c in development_yes s.args.year s.args.packed.now 14 refl s.requires

last-year-of-requires : tie.Need-last_year_of-k-requires
last-year-of-requires c κs = let s = start c in passed.some s.args.year s.args.packed.now (run s)

last-year : (c : tie.After-last_year_of-k) → c.last_year_of-k.result ≡ (F c.before).k
unfolding figures_of
last-year c = c.last_year_of-k.ensures.0

-- the development factors
abbrev years : tie.After-factors-1 → tie.After-last_year_of-k
years c = c.before.before.before

development-factors-requires : tie.Need-development_factors-requires
development-factors-requires c κs =
    let year = years c in
    let at = year.before in
    let read = at.read_again.ensures in
    factors_ready (F at) (good at) (six at) _ _ (last-year year) read.1.1.1.1.0 _ read.1.1.1.1.1.0

factors : (c : tie.After-development_factors) → c.development_factors.new.factors ≡ development_in (F (years c.before).before)
factors c =
    let year = years c.before in
    let at = year.before in
    let read = at.read_again.ensures in
    factors_found (F at) (good at) (six at) _ _ (last-year year) read.1.1.1.1.0 _ read.1.1.1.1.1.0 (thirteen at) _ c.development_factors.ensures.1

cell-found-requires : tie.Need-cell_found-requires
cell-found-requires c κs =
    let made = c.before.before in
    let year = years made.before in
    let at = year.before in
    let s = start at in
    let read = at.read_again.ensures in
    cell_ready (F at) (good at) (six at) _ _ (last-year year) read.1.1.1.1.0 _ (factors made) (thirteen at) (completed_no s.args.year s.args.packed.now s.requires)

returns : tie.Need-returns
returns c =
    let made = c.before.before.before in
    let year = years made.before in
    let at = year.before in
    let read = at.read_again.ensures in
    let cell = c.cell_found.ensures in
    (cell.0 ∙ completed_is (F at) (good at) (six at) _ _ (last-year year) read.1.1.1.1.0 _ (factors made), cell.1)

pub completed_finding_spec : {M : Type 1} → statement M
completed_finding_spec =
    tie.close
    (tie.spec
    read-again-requires
    last-year-of-requires
    development-factors-requires
    cell-found-requires
    returns)
