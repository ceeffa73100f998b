-- What is read again are the figures' own (read_tail), so that the year is the first whose t_i is above the most (Told), one of the years 0 to k. Assumes nothing.
use borrow.Author.Rules.{rules}
use native.Mathlib.Omega.{arith}
use mathlib.Core.Path.{◌≡◌, refl, ◌∙◌}
use Prim.Native.Nat.{◌≤◌, ◌<◌}
use Rattle.rules.specs.Record.{Figures, figures_of}
use Rattle.rules.specs.Separation.{billion}
use Rattle.rules.specs.Results.{first_tail_average_of}
use Rattle.reading.specs.Reading.{Sound}
use Rattle.outcomes.proofs.Passed as passed
use Rattle.outcomes.proofs.Said.{tail_yes, tails_no}
use Rattle.tail_findings.specs.TailFindings.{first_average_over}
use Rattle.outcomes.proofs.Passed.{answered}
use Rattle.tail_findings.proofs.Told.{average_is, average_low, carried_fits, carried_is, year_is, over_year}
use Rattle.tail_findings.proofs.tail_average_finding.Statement.{statement}
use Rattle.tail_findings.proofs.tail_average_finding.Tie as tie

run : (s : tie.Start) → passed.Late s.args.year s.args.packed.now
run s = answered s.args.year s.args.packed.now 19 (omega arith) s.requires

read-tail-requires : tie.Need-read_tail-tail-requires
read-tail-requires c κs =
    let s = c.before.before.before in
    (passed.opening s.args.year s.args.packed.now (run s), (passed.fields s.args.year s.args.packed.now (run s), (refl, refl)))

abbrev start : tie.After-read_tail-tail → tie.Start
start c = c.before.before.before.before

abbrev F : tie.After-read_tail-tail → Figures
F c = figures_of (start c).args.packed.now

good : (c : tie.After-read_tail-tail) → Sound (F c)
good c =
    let s = start c in
    passed.sound s.args.year s.args.packed.now (run s) (λ i. omega (arith, c.before.before.before.shared_slice_known-1.given i))

first-tail-average-requires : tie.Need-first_tail_average-first-requires
first-tail-average-requires c κs =
    let at = c.before in
    let read = at.read_tail-tail.ensures in
    rw (read.0, read.1.0) ((good at).tail, (good at).exposures 0 (omega arith))

-- t_0, which question 18 has passed
average : (c : tie.After-first_tail_average-first) → c.first_tail_average-first.result ≡ first_tail_average_of (F c.before.before)
average c =
    let at = c.before.before in
    let read = at.read_tail-tail.ensures in
    c.first_tail_average-first.ensures ∙ average_is (F at) _ _ read.0 read.1.0

low : (c : tie.After-first_tail_average-first) → first_tail_average_of (F c.before.before) ≤ billion
low c =
    let at = c.before.before in
    let s = start at in
    average_low (F at) (tail_yes s.args.year s.args.packed.now 19 refl s.requires)

last-year-of-requires : tie.Need-last_year_of-requires
last-year-of-requires c κs =
    let s = start c.before.before in
    passed.some s.args.year s.args.packed.now (run s)

last-year : (c : tie.After-last_year_of) → c.last_year_of.result ≡ (F c.before.before.before).k
unfolding figures_of
last-year c = c.last_year_of.ensures.0

first-over-requires : tie.Need-first_over-i-requires
first-over-requires c κs =
    let first = c.before.before in
    let at = first.before.before in
    let read = at.read_tail-tail.ensures in
    (c.before.last_year_of.ensures.1, (rw (average first) (low first), rw read.1.1 ((good at).first_index, (good at).indices)))

-- the year that is named
abbrev years : tie.After-first_over-i → tie.After-last_year_of
years c = c.before.before

over : (c : tie.After-first_over-i) → c.first_over-i.result ≡ first_average_over (F (years c).before.before.before)
over c =
    let first = (years c).before in
    let at = first.before.before in
    c.first_over-i.ensures ∙ year_is (F at) _ _ _ (last-year (years c)) (average first) at.read_tail-tail.ensures.1.1

few : (c : tie.After-first_over-i) → c.first_over-i.result < 16
few c =
    let at = (years c).before.before.before in
    let s = start at in
    omega (arith, over c, over_year (F at) (tails_no s.args.year s.args.packed.now s.requires), (good at).few)

tail-average-requires : tie.Need-tail_average-requires
tail-average-requires c κs =
    let first = (years c.before).before in
    let at = first.before.before in
    let read = at.read_tail-tail.ensures in
    (few c.before, (rw (average first) (low first), rw read.1.1 ((good at).first_index, (good at).indices c.before.first_over-i.result)))

mul-of-naturals : tie.Need-offset_bounds-indices-i
mul-of-naturals c = omega (arith, few c.before.before)

array-read-of-naturals : tie.Need-bounds-indices-i
array-read-of-naturals c = few c.before.before

of-naturals-requires : tie.Need-of_naturals-requires
of-naturals-requires c κs =
    let i = c.before.before in
    let first = (years i).before in
    let at = first.before.before in
    carried_fits (F at) (good at) _ _ i.first_over-i.result _ (average first) at.read_tail-tail.ensures.1.1 (low first) c.tail_average.ensures

returns : tie.Need-returns
returns c =
    let at = c.before in
    let i = at.before.before in
    let first = (years i).before in
    let read = first.before.before in
    let made = c.of_naturals.ensures in
    let same = carried_is (F read) _ _ _ _ (last-year (years i)) (average first) read.read_tail-tail.ensures.1.1 i.first_over-i.ensures in (
      made ∙ rw at.tail_average.ensures same,
      (rw made (few i), rw made (omega arith)),
    )

pub tail_average_finding_spec : {M : Type 1} → statement M
tail_average_finding_spec =
    tie.close
    (tie.spec
    read-tail-requires
    first-tail-average-requires
    last-year-of-requires
    first-over-requires
    tail-average-requires
    mul-of-naturals
    array-read-of-naturals
    (λ c. search rules)
    of-naturals-requires
    returns)
