-- What is read again are the figures' own (read_again), so that the totals are those of the increments and of the ULAE (Paid). Assumes nothing.
use native.Mathlib.Omega.{arith}
use mathlib.Core.Path.{◌≡◌, refl, ◌∙◌}
use mathlib.Core.Bool.{true}
use Rattle.rules.specs.Record.{Figures, figures_of}
use Rattle.rules.specs.Triangle.{cumulatives_pass}
use Rattle.reading.specs.Reading.{Sound}
use Rattle.outcomes.proofs.Passed as passed
use Rattle.outcomes.proofs.Passed.{answered}
use Rattle.reserve_findings.proofs.Paid.{totals_ready, ratio_is}
use Rattle.reserve_findings.proofs.ratio_finding.Statement.{statement}
use Rattle.reserve_findings.proofs.ratio_finding.Tie as tie

run : (s : tie.Start) → passed.Late s.args.year s.args.packed.now
run s = answered s.args.year s.args.packed.now 12 (omega arith) s.requires

read-again-requires : tie.Need-read_again-requires
read-again-requires c κs =
    let s = c.before.before.before.before.before.before.before.before in
    let year = s.args.year in
    let packed = s.args.packed.now in
    (passed.opening year packed (run s), (passed.fields year packed (run s), (passed.cumulatives year packed (run s), (refl, (refl, (refl, (refl, refl)))))))

abbrev start : tie.After-read_again → tie.Start
start c = c.before.before.before.before.before.before.before.before.before

abbrev F : tie.After-read_again → Figures
F c = figures_of (start c).args.packed.now

good : (c : tie.After-read_again) → Sound (F c)
good c =
    let s = start c in
    passed.sound s.args.year s.args.packed.now (run s) (λ i. omega (arith, c.before.before.before.before.before.before.before.before.shared_slice_known-1.given i))

six : (c : tie.After-read_again) → cumulatives_pass (F c).k (F c).increments ≡ true
six c = let s = start c in passed.cumulatives s.args.year s.args.packed.now (run s)

last-year-of-requires : tie.Need-last_year_of-requires
last-year-of-requires c κs = let s = start c.before.before in passed.some s.args.year s.args.packed.now (run s)

last-year : (c : tie.After-last_year_of) → c.last_year_of.result ≡ (F c.before.before.before).k
unfolding figures_of
last-year c = c.last_year_of.ensures.0

ratio-found-requires : tie.Need-ratio_found-requires
ratio-found-requires c κs =
    let at = c.before.before.before in
    let read = at.read_again.ensures in
    totals_ready (F at) (good at) (six at) _ _ _ (last-year c) read.1.1.1.1.0 read.1.1.1.0

returns : tie.Need-returns
returns c =
    let year = c.before in
    let at = year.before.before.before in
    let read = at.read_again.ensures in
    let made = c.ratio_found.ensures in (
      made ∙ ratio_is (F at) (good at) (six at) _ _ _ (last-year year) read.1.1.1.1.0 read.1.1.1.0,
      (rw made (omega arith), rw made (omega arith)),
    )

pub ratio_finding_spec : {M : Type 1} → statement M
ratio_finding_spec = tie.close (tie.spec read-again-requires last-year-of-requires ratio-found-requires returns)
