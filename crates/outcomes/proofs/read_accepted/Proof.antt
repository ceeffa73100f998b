-- The record has passed every question: its arrays are those of its figures (read_again), and so are B, Y and the divisor (Corrected). Assumes nothing.
use borrow.Author.Rules.{rules, sfits_of}
use native.Mathlib.Omega.{arith}
use mir.Syntax.{w64}
use mir.Facts.{to_z-of_z}
use Prim.Native.Nat.{ℕ, ◌≤◌}
use mathlib.Core.Path.{◌≡◌, refl, sym, ap, ◌∙◌}
use mathlib.Core.Bool.{true}
use lib.IntN.{nat_abs}
use Rattle.rules.specs.Record.{Figures, figures_of}
use Rattle.rules.specs.Triangle.{cumulatives_pass}
use Rattle.rules.specs.Growth.{corrects}
use Rattle.rules.specs.Results.{provision_section, section_start, provisions_in, plain_ratio_in, latest_reported_in, latest_paid_in, divisor_in}
use Rattle.reading.specs.Reading.{Sound}
use Rattle.listing.proofs.Known.{known, at_starts}
use Rattle.laws.proofs.TriangleRows.{cells_most}
use Rattle.outcomes.proofs.Passed as passed
use Rattle.outcomes.proofs.Accepted as accepted
use Rattle.outcomes.proofs.Corrected.{latest_least, plain_most, divisor_most, ratio_ready, plain_is, provisions_are, ultimates_fit, shares_sum, reported_is, latest_is, divisor_is, plain_alone, corrected}
use Rattle.outcomes.specs.Outcome.{most_correction}
use Rattle.outcomes.proofs.read_accepted.Statement.{statement}
use Rattle.outcomes.proofs.read_accepted.Tie as tie

run : (s : tie.Start) → passed.Late s.args.year s.args.packed.now
run s = passed.accepted s.args.year s.args.packed.now s.requires.0

read-again-requires : tie.Need-read_again-weight-requires
read-again-requires c κs =
    let s = c.before.before.before.before.before.before.before.before in
    let year = s.args.year in
    let packed = s.args.packed.now in
    (passed.opening year packed (run s), (passed.fields year packed (run s), (passed.cumulatives year packed (run s), (refl, (refl, (refl, (s.requires.1.1, refl)))))))

-- the figures of the record, which are sound
abbrev start : tie.After-read_again-weight → tie.Start
start c = c.before.before.before.before.before.before.before.before.before

abbrev F : tie.After-read_again-weight → Figures
F c = figures_of (start c).args.packed.now

good : (c : tie.After-read_again-weight) → Sound (F c)
good c =
    let s = start c in
    passed.sound s.args.year s.args.packed.now (run s) (λ i. omega (arith, c.before.before.before.before.before.before.before.before.shared_slice_known-1.given i))

six : (c : tie.After-read_again-weight) → cumulatives_pass (F c).k (F c).increments ≡ true
six c = let s = start c in passed.cumulatives s.args.year s.args.packed.now (run s)

last-year-of-requires : tie.Need-last_year_of-k-requires
last-year-of-requires c κs = let s = start c in passed.some s.args.year s.args.packed.now (run s)

year_is : (c : tie.After-last_year_of-k) → c.last_year_of-k.result ≡ (F c.before).k
unfolding figures_of
year_is c = c.last_year_of-k.ensures.0

-- the plain ratio
plain-ratio-again-requires : tie.Need-plain_ratio_again-plain-requires
plain-ratio-again-requires c κs =
    let k = c.before in
    let at = k.before in
    let s = start at in
    let read = at.read_again-weight.ensures in
    ratio_ready (F at) (good at) (six at) _ _ _ (year_is k) read.1.1.1.1.0 read.1.1.1.0 (accepted.ratio s.args.year s.args.packed.now s.requires.0)

abbrev again : tie.After-plain_ratio_again-plain → tie.After-read_again-weight
again c = c.before.before.before

plain : (c : tie.After-plain_ratio_again-plain) → c.plain_ratio_again-plain.result ≡ plain_ratio_in (F (again c))
plain c =
    let at = again c in
    let read = at.read_again-weight.ensures in
    c.plain_ratio_again-plain.ensures ∙ plain_is (F at) (good at) (six at) _ _ _ (year_is c.before.before) read.1.1.1.1.0 read.1.1.1.0

plain_fits : (c : tie.After-plain_ratio_again-plain) → c.plain_ratio_again-plain.result ≤ most_correction
plain_fits c =
    let at = again c in
    let s = start at in
    let read = at.read_again-weight.ensures in
    let ready = ratio_ready (F at) (good at) (six at) _ _ _ (year_is c.before.before) read.1.1.1.1.0 read.1.1.1.0 (accepted.ratio s.args.year s.args.packed.now s.requires.0) in
    rw c.plain_ratio_again-plain.ensures (plain_most _ _ ready.1.1.1.1)

-- a year whose ratio is not corrected
returns : tie.Need-returns-then-not-corrects
returns c =
    let ratio = c.before.before in
    let no = sym c.before.corrects.ensures ∙ c.if-not-corrects.true in
    (plain_alone (F (again ratio)) _ _ no (plain ratio), (record { plain = plain_fits ratio; reported = omega arith; paid = omega arith; divisor = omega arith }, (again ratio).read_again-weight.ensures.1.1.1.1.0))

-- a year whose ratio is
yes : (c : tie.Else-not-corrects) → corrects (start (again c.before.before)).args.year ≡ true
yes c = sym c.before.corrects.ensures ∙ c.if-not-corrects.false

provisions-of-requires : tie.Need-provisions_of-provisions-requires
provisions-of-requires c κs =
    let k = c.before.before.before.before.before in
    let few = k.last_year_of-k.ensures.1 in
    let m = k.last_year_of-k.result in
    (few, omega (arith, (at_starts c.starts_of.result m c.starts_of.ensures).provisions, (known m).provisions, cells_most m few))

abbrev years : tie.After-provisions_of-provisions → tie.After-last_year_of-k
years c = c.before.before.before.before.before.before

provisions : (c : tie.After-provisions_of-provisions) → c.provisions_of-provisions.result ≡ provisions_in (F (years c).before)
provisions c =
    let k = years c in
    let s = start k.before in
    let from = c.before.starts_of in
    let place = (at_starts from.result k.last_year_of-k.result from.ensures).provisions ∙ ap (λ (m : ℕ). section_start m provision_section) (year_is k) in
    c.provisions_of-provisions.ensures
    ∙ provisions_are s.args.year (F k.before) _ _ _ _ (year_is k) place (s.requires.1.0 ∙ accepted.filled s.args.year s.args.packed.now s.requires.0)

latest-reported-requires : tie.Need-latest_reported-reported-requires
latest-reported-requires c κs =
    let put = c.before.before in
    let k = years put in
    let at = k.before in
    let s = start at in
    let read = at.read_again-weight.ensures in (
      k.last_year_of-k.ensures.1,
      (
        ultimates_fit (F at) _ _ _ (year_is k) read.1.1.1.1.0 (provisions put) (accepted.ultimates s.args.year s.args.packed.now s.requires.0),
        shares_sum (F at) (good at) _ _ (year_is k) read.1.1.0,
      ),
    )

reported : (c : tie.After-latest_reported-reported) → c.latest_reported-reported.result ≡ latest_reported_in (F (years c.before.before.before).before)
reported c =
    let put = c.before.before.before in
    let k = years put in
    let at = k.before in
    let read = at.read_again-weight.ensures in
    c.latest_reported-reported.ensures.0 ∙ reported_is (F at) _ _ _ _ (year_is k) read.1.1.0 read.1.1.1.1.0 (provisions put)

latest-paid-requires : tie.Need-latest_paid-requires
latest-paid-requires c κs =
    let k = years c.before.before.before.before in
    let at = k.before in
    (k.last_year_of-k.ensures.1, rw at.read_again-weight.ensures.1.0 (good at).increments)

abbrev found : tie.After-size_of-latest → tie.After-latest_reported-reported
found c = c.before.before.before

abbrev put : tie.After-size_of-latest → tie.After-provisions_of-provisions
put c = (found c).before.before.before

latest : (c : tie.After-size_of-latest) → c.size_of-latest.result ≡ nat_abs (latest_paid_in (F (years (put c)).before))
latest c =
    let k = years (put c) in
    let at = k.before in
    let whole = to_z-of_z {w = w64} {z = c.before.latest_paid.result} (sfits_of c.before.latest_paid.type_inv) in
    c.size_of-latest.ensures ∙ ap nat_abs (whole ∙ c.before.latest_paid.ensures.0 ∙ latest_is (F at) _ _ (year_is k) at.read_again-weight.ensures.1.0)

divisor-of-requires : tie.Need-divisor_of-requires
divisor-of-requires c κs =
    let at = (years (put c)).before in
    let s = start at in
    let fifteen = accepted.latest s.args.year s.args.packed.now s.requires.0 (yes (put c).before.before) in
    (rw at.read_again-weight.ensures.0 (good at).weight, ((found c).latest_reported-reported.ensures.1, rw (latest c) (latest_least (latest_paid_in (F at)) fifteen)))

divisor : (c : tie.After-divisor_of) → c.divisor_of.result ≡ divisor_in (F (years (put c.before)).before)
divisor c =
    let at = (years (put c.before)).before in
    c.divisor_of.ensures ∙ divisor_is (F at) _ _ _ at.read_again-weight.ensures.0 (reported (found c.before)) (latest c.before)

divisor_fits : (c : tie.After-divisor_of) → c.divisor_of.result ≤ most_correction
divisor_fits c =
    let at = (years (put c.before)).before in
    rw c.divisor_of.ensures (divisor_most _ _ _ (rw at.read_again-weight.ensures.0 (good at).weight) (found c.before).latest_reported-reported.ensures.1)

paid_fits : (c : tie.After-size_of-latest) → c.size_of-latest.result ≤ most_correction
paid_fits c =
    let whole = to_z-of_z {w = w64} {z = c.before.latest_paid.result} (sfits_of c.before.latest_paid.type_inv) in
    omega (arith, c.size_of-latest.ensures ∙ ap nat_abs whole, c.before.latest_paid.ensures.1)

returns-2 : tie.Need-returns
returns-2 c =
    let else1 = (put c.before).before.before in
    let ratio = else1.before.before in (
      corrected (F (again ratio)) _ _ _ _ _ (yes else1) (plain ratio) (reported (found c.before)) (latest c.before) (divisor c),
      (
        record { plain = plain_fits ratio; reported = omega (arith, (found c.before).latest_reported-reported.ensures.1); paid = paid_fits c.before; divisor = divisor_fits c },
        (again ratio).read_again-weight.ensures.1.1.1.1.0,
      ),
    )

pub read_accepted_spec : {M : Type 1} → statement M
read_accepted_spec =
    tie.close
    (tie.spec
    read-again-requires
    last-year-of-requires
    plain-ratio-again-requires
    (λ c κs. search rules)
    returns
    (λ c κs. search rules)
    provisions-of-requires
    latest-reported-requires
    latest-paid-requires
    (λ c κs. search rules)
    divisor-of-requires
    returns-2)
