-- What is read again are the figures' own (read_again), so that what is paid in the latest year is Y (Paid). Assumes nothing.
use borrow.Author.Rules.{sfits_of}
use native.Mathlib.Omega.{arith}
use mir.Syntax.{w64}
use mir.Facts.{to_z-of_z}
use mathlib.Core.Path.{◌≡◌, refl}
use Rattle.rules.specs.Record.{Figures, figures_of}
use Rattle.reading.specs.Reading.{Sound}
use Rattle.outcomes.proofs.Passed as passed
use Rattle.outcomes.proofs.Passed.{answered}
use Rattle.reserve_findings.proofs.Paid.{latest_found}
use Rattle.reserve_findings.proofs.latest_finding.Statement.{statement}
use Rattle.reserve_findings.proofs.latest_finding.Tie as tie

run : (s : tie.Start) → passed.Late s.args.year s.args.packed.now
run s = answered s.args.year s.args.packed.now 15 (omega arith) s.requires

read-again-requires : tie.Need-read_again-requires
read-again-requires c κs =
    let s = c.before.before.before.before.before.before.before.before in
    let year = s.args.year in
    let packed = s.args.packed.now in
    (passed.opening year packed (run s), (passed.fields year packed (run s), (passed.cumulatives year packed (run s), (refl, (refl, (refl, (refl, refl)))))))

abbrev start : tie.After-read_again → tie.Start
start c = c.before.before.before.before.before.before.before.before.before

abbrev F : tie.After-read_again → Figures
F c = figures_of (start c).args.packed.now

good : (c : tie.After-read_again) → Sound (F c)
good c =
    let s = start c in
    passed.sound s.args.year s.args.packed.now (run s) (λ i. omega (arith, c.before.before.before.before.before.before.before.before.shared_slice_known-1.given i))

last-year-of-requires : tie.Need-last_year_of-k-requires
last-year-of-requires c κs = let s = start c in passed.some s.args.year s.args.packed.now (run s)

last-year : (c : tie.After-last_year_of-k) → c.last_year_of-k.result ≡ (F c.before).k
unfolding figures_of
last-year c = c.last_year_of-k.ensures.0

latest-paid-requires : tie.Need-latest_paid-requires
latest-paid-requires c κs =
    let at = c.before.before in
    (c.before.last_year_of-k.ensures.1, rw at.read_again.ensures.1.0 (good at).increments)

returns : tie.Need-returns
returns c =
    let year = c.before.before in
    let at = year.before in
    let whole = to_z-of_z {w = w64} {z = c.latest_paid.result} (sfits_of c.latest_paid.type_inv) in
    let same = latest_found (F at) _ _ _ (last-year year) at.read_again.ensures.1.0 c.latest_paid.ensures.0 in
    (rw whole same, (year.last_year_of-k.ensures.1, omega arith))

pub latest_finding_spec : {M : Type 1} → statement M
latest_finding_spec = tie.close (tie.spec read-again-requires last-year-of-requires latest-paid-requires returns)
