-- What is read and worked out again are the figures' own up to the year that is named (Over), one of the years 0 to k. Assumes nothing.
use native.Mathlib.Omega.{arith}
use mathlib.Core.Path.{◌≡◌, refl, ◌∙◌}
use mathlib.Core.Bool.{false}
use Prim.Native.Nat.{ℕ, ◌*◌, ◌≤◌, ◌<◌}
use lib.ListN.{get_or}
use Rattle.rules.specs.Packing.{Fit}
use Rattle.rules.specs.Record.{Figures, figures_of}
use Rattle.rules.specs.Triangle.{most_cumulative}
use Rattle.rules.specs.Completion.{ultimates_pass}
use Rattle.rules.specs.Results.{paid_in, provisions_in}
use Rattle.reading.specs.Reading.{Sound}
use Rattle.reading.proofs.FiguresRead.{sound_figures}
use Rattle.opening.proofs.Opened.{years_known_lem, opening_yes}
use Rattle.completion.specs.Asked.{most_payment}
use Rattle.outcomes.proofs.Said.{ultimates_no}
use Rattle.reserve_findings.specs.ReserveFindings.{first_ultimate_over}
use Rattle.provisions_again.specs.Provided.{Carried}
use Rattle.provisions_again.proofs.Passing.{carried, after_11}
use Rattle.reserve_findings.proofs.Over.{over_year, over_ready, year_found, ultimate_is}
use Rattle.reserve_findings.proofs.ultimate_finding.Statement.{statement}
use Rattle.reserve_findings.proofs.ultimate_finding.Tie as tie

passed : (s : tie.Start) → Carried s.args.packed.now
passed s = carried s.args.year s.args.packed.now 11 after_11 s.requires

read-provided-requires : tie.Need-read_provided-given-requires
read-provided-requires c κs = (passed c.before.before.before.before.before.before, (refl, (refl, (refl, (refl, refl)))))

abbrev start : tie.After-read_provided-given → tie.Start
start c = c.before.before.before.before.before.before.before

abbrev F : tie.After-read_provided-given → Figures
F c = figures_of (start c).args.packed.now

bytes : (c : tie.After-read_provided-given) → Fit 8 (start c).args.packed.now
bytes c i = omega (arith, c.before.before.before.before.before.before.shared_slice_known-1.given i)

good : (c : tie.After-read_provided-given) → Sound (F c)
good c = let p = passed (start c) in sound_figures (start c).args.packed.now (bytes c) p.opening p.fields

no-eleven : (c : tie.After-read_provided-given) → ultimates_pass (F c).k (paid_in (F c)) (provisions_in (F c)) ≡ false
no-eleven c = let s = start c in ultimates_no s.args.year s.args.packed.now s.requires

last-year-of-requires : tie.Need-last_year_of-requires
last-year-of-requires c κs = let s = (start c).args.packed.now in (years_known_lem s (opening_yes s (passed (start c)).opening).0).0

last-year : (c : tie.After-last_year_of) → c.last_year_of.result ≡ (F c.before).k
unfolding figures_of
last-year c = c.last_year_of.ensures.0

-- the arrays are within their limits
ready : (c : tie.After-last_year_of) →
    let read = c.before.read_provided-given in
    (c.last_year_of.result < 16)
    × (((i : ℕ) → get_or read.new.paid i 0 ≤ most_cumulative) × ((i : ℕ) → get_or read.new.provisions i 0 ≤ 16 * most_payment))
ready c =
    let at = c.before in
    let p = passed (start at) in
    let read = at.read_provided-given.ensures in
    over_ready (F at) (good at) p.cumulatives p.development p.separation p.tail (no-eleven at) _ _ _ (last-year c) read.1.1.1.1.0 read.1.1.1.1.1

first-over-requires : tie.Need-first_over-i-requires
first-over-requires c κs = ready c.before.before

-- the year that is named
abbrev years : tie.After-first_over-i → tie.After-last_year_of
years c = c.before.before.before

over : (c : tie.After-first_over-i) → c.first_over-i.result ≡ first_ultimate_over (F (years c).before)
over c =
    let at = (years c).before in
    let read = at.read_provided-given.ensures in
    year_found (F at) (no-eleven at) (good at).few _ _ _ _ (last-year (years c)) read.1.1.1.1.0 read.1.1.1.1.1 c.first_over-i.ensures

few : (c : tie.After-first_over-i) → c.first_over-i.result < 16
few c = let at = (years c).before in omega (arith, over c, over_year (F at) (no-eleven at), (good at).few)

add-of-naturals : tie.Need-overflow_add-given
add-of-naturals c =
    let limits = (ready (years c)).1 in
    let i = c.first_over-i.result in
    omega (arith, limits.0 i, limits.1 i)

of-naturals-requires : tie.Need-of_naturals-requires
of-naturals-requires c κs =
    let limits = (ready (years c)).1 in
    let i = c.first_over-i.result in
    (omega (arith, limits.0 i), (omega (arith, limits.1 i), omega (arith, limits.0 i, limits.1 i)))

returns : tie.Need-returns
returns c =
    let first = c.before in
    let at = (years first).before in
    let read = at.read_provided-given.ensures in
    let made = c.of_naturals.ensures in
    let same = ultimate_is (F at) (no-eleven at) (good at).few _ _ _ _ (last-year (years first)) read.1.1.1.1.0 read.1.1.1.1.1 first.first_over-i.ensures in
    (made ∙ same, (rw made (few first), rw made (omega arith)))

pub ultimate_finding_spec : {M : Type 1} → statement M
ultimate_finding_spec =
    tie.close
    (tie.spec
    read-provided-requires
    last-year-of-requires
    first-over-requires
    (λ c. omega (arith, few c))
    few
    (λ c. omega (arith, few c))
    few
    add-of-naturals
    of-naturals-requires
    returns)
