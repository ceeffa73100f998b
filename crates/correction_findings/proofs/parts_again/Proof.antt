-- What is read and worked out again are the figures' own, and so are the plain ratio, B, Y and the divisor (outcomes' Corrected). Assumes nothing.
use borrow.Author.Rules.{rules, sfits_of}
use native.Mathlib.Omega.{arith}
use mir.Syntax.{w64}
use mir.Facts.{to_z-of_z}
use mathlib.Core.Path.{◌≡◌, refl, ap, ◌∙◌}
use Prim.Native.Nat.{◌≤◌}
use lib.IntN.{nat_abs}
use Rattle.rules.specs.Packing.{Fit}
use Rattle.rules.specs.Record.{Figures, figures_of, million}
use Rattle.rules.specs.Expense.{paid_total, ulae_total}
use Rattle.rules.specs.Results.{provisions_in, plain_ratio_in, latest_reported_in, latest_paid_in, divisor_in}
use Rattle.reading.specs.Reading.{Sound}
use Rattle.reading.proofs.FiguresRead.{sound_figures}
use Rattle.opening.proofs.Opened.{years_known_lem, opening_yes}
use Rattle.allowance.proofs.Rates.{ratio_most}
use Rattle.outcomes.proofs.Corrected.{latest_least, divisor_most, ratio_ready, plain_is, ultimates_fit, shares_sum, reported_is, latest_is, divisor_is}
use Rattle.provisions_again.specs.Provided.{Corrects}
use Rattle.provisions_again.proofs.Provisions.{all_provisions}
use Rattle.correction_findings.proofs.Correcting.{parts_are}
use Rattle.correction_findings.proofs.parts_again.Statement.{statement}
use Rattle.correction_findings.proofs.parts_again.Tie as tie

read-provided-requires : tie.Need-read_provided-weight-requires
read-provided-requires c κs = (c.before.before.before.before.before.before.requires.carried, (refl, (refl, (refl, (refl, refl)))))

abbrev start : tie.After-read_provided-weight → tie.Start
start c = c.before.before.before.before.before.before.before

abbrev F : tie.After-read_provided-weight → Figures
F c = figures_of (start c).args.packed.now

passed : (c : tie.After-read_provided-weight) → Corrects (start c).args.packed.now
passed c = (start c).requires

bytes : (c : tie.After-read_provided-weight) → Fit 8 (start c).args.packed.now
bytes c i = omega (arith, c.before.before.before.before.before.before.shared_slice_known-1.given i)

good : (c : tie.After-read_provided-weight) → Sound (F c)
good c = let p = (passed c).carried in sound_figures (start c).args.packed.now (bytes c) p.opening p.fields

provisions : (c : tie.After-read_provided-weight) → c.read_provided-weight.new.provisions ≡ provisions_in (F c)
provisions c =
    let p = passed c in
    let q = p.carried in
    c.read_provided-weight.ensures.1.1.1.1.1 ∙ all_provisions (F c) (good c) q.cumulatives q.development q.separation q.tail p.ultimates

last-year-of-requires : tie.Need-last_year_of-k-requires
last-year-of-requires c κs = let s = (start c).args.packed.now in (years_known_lem s (opening_yes s (passed c).carried.opening).0).0

last-year : (c : tie.After-last_year_of-k) → c.last_year_of-k.result ≡ (F c.before).k
unfolding figures_of
last-year c = c.last_year_of-k.ensures.0

-- the plain ratio
plain-ratio-again-requires : tie.Need-plain_ratio_again-plain-requires
plain-ratio-again-requires c κs =
    let year = c.before.before in
    let at = year.before in
    let read = at.read_provided-weight.ensures in
    ratio_ready (F at) (good at) (passed at).carried.cumulatives _ _ _ (last-year year) read.1.1.1.1.0 read.1.1.1.0 (passed at).ratio

abbrev years1 : tie.After-plain_ratio_again-plain → tie.After-last_year_of-k
years1 c = c.before.before.before

plain : (c : tie.After-plain_ratio_again-plain) → c.plain_ratio_again-plain.result ≡ plain_ratio_in (F (years1 c).before)
plain c =
    let at = (years1 c).before in
    let read = at.read_provided-weight.ensures in
    c.plain_ratio_again-plain.ensures ∙ plain_is (F at) (good at) (passed at).carried.cumulatives _ _ _ (last-year (years1 c)) read.1.1.1.1.0 read.1.1.1.0

plain_most : (c : tie.After-plain_ratio_again-plain) → plain_ratio_in (F (years1 c).before) ≤ million
unfolding plain_ratio_in
plain_most c =
    let at = (years1 c).before in
    let f = F at in
    ratio_most (paid_total f.k f.increments) (ulae_total f.k f.ulae) (passed at).ratio

-- B
abbrev years2 : tie.After-provisions-2-1 → tie.After-last_year_of-k
years2 c = years1 c.before.before.before

latest-reported-requires : tie.Need-latest_reported-reported-requires
latest-reported-requires c κs =
    let year = years2 c in
    let at = year.before in
    let read = at.read_provided-weight.ensures in (
      year.last_year_of-k.ensures.1,
      (
        ultimates_fit (F at) _ _ _ (last-year year) read.1.1.1.1.0 (provisions at) (passed at).ultimates,
        shares_sum (F at) (good at) _ _ (last-year year) read.1.1.0,
      ),
    )

reported : (c : tie.After-latest_reported-reported) → c.latest_reported-reported.result ≡ latest_reported_in (F (years2 c.before).before)
reported c =
    let year = years2 c.before in
    let at = year.before in
    let read = at.read_provided-weight.ensures in
    c.latest_reported-reported.ensures.0 ∙ reported_is (F at) _ _ _ _ (last-year year) read.1.1.0 read.1.1.1.1.0 (provisions at)

-- Y
abbrev years3 : tie.After-increments-2-1 → tie.After-last_year_of-k
years3 c = years2 c.before.before

latest-paid-requires : tie.Need-latest_paid-requires
latest-paid-requires c κs =
    let year = years3 c in
    let at = year.before in
    (year.last_year_of-k.ensures.1, rw at.read_provided-weight.ensures.1.0 (good at).increments)

abbrev years4 : tie.After-size_of-latest → tie.After-last_year_of-k
years4 c = years3 c.before.before

latest : (c : tie.After-size_of-latest) → c.size_of-latest.result ≡ nat_abs (latest_paid_in (F (years4 c).before))
latest c =
    let year = years4 c in
    let at = year.before in
    let whole = to_z-of_z {w = w64} {z = c.before.latest_paid.result} (sfits_of c.before.latest_paid.type_inv) in
    c.size_of-latest.ensures ∙ ap nat_abs (whole ∙ c.before.latest_paid.ensures.0 ∙ latest_is (F at) _ _ (last-year year) at.read_provided-weight.ensures.1.0)

-- the divisor
abbrev counted : tie.After-size_of-latest → tie.After-latest_reported-reported
counted c = c.before.before.before

divisor-of-requires : tie.Need-divisor_of-requires
divisor-of-requires c κs =
    let at = (years4 c).before in
    (rw at.read_provided-weight.ensures.0 (good at).weight, ((counted c).latest_reported-reported.ensures.1, rw (latest c) (latest_least (latest_paid_in (F at)) (passed at).latest)))

divisor : (c : tie.After-divisor_of) → c.divisor_of.result ≡ divisor_in (F (years4 c.before).before)
divisor c =
    let at = (years4 c.before).before in
    c.divisor_of.ensures ∙ divisor_is (F at) _ _ _ at.read_provided-weight.ensures.0 (reported (counted c.before)) (latest c.before)

returns : tie.Need-returns
returns c =
    let size = c.before in
    let b = counted size in
    let ratio = b.before.before.before.before in
    let at = (years4 size).before in
    let weight = at.read_provided-weight.ensures.0 in
    let whole = to_z-of_z {w = w64} {z = size.before.latest_paid.result} (sfits_of size.before.latest_paid.type_inv) in (
      parts_are (F at) _ _ _ _ _ weight (plain ratio) (reported b) (latest size) (divisor c),
      record {
        weight = rw weight (good at).weight;
        plain = rw (plain ratio) (plain_most ratio);
        reported = b.latest_reported-reported.ensures.1;
        paid = omega (arith, size.size_of-latest.ensures ∙ ap nat_abs whole, size.before.latest_paid.ensures.1);
        divisor = rw c.divisor_of.ensures (divisor_most _ _ _ (rw weight (good at).weight) b.latest_reported-reported.ensures.1);
      },
    )

pub parts_again_spec : {M : Type 1} → statement M
parts_again_spec =
    tie.close
    (tie.spec
    read-provided-requires
    last-year-of-requires
    plain-ratio-again-requires
    latest-reported-requires
    latest-paid-requires
    (λ c κs. search rules)
    divisor-of-requires
    returns)
