-- What is read again are the figures' own (read_tail), so that the average is t_0 (Told). Assumes nothing.
use borrow.Author.Rules.{rules}
use native.Mathlib.Omega.{arith}
use mathlib.Core.Path.{◌≡◌, refl, ◌∙◌}
use Rattle.rules.specs.Record.{Figures, figures_of}
use Rattle.rules.specs.Results.{first_tail_average_of}
use Rattle.reading.specs.Reading.{Sound}
use Rattle.outcomes.proofs.Passed as passed
use Rattle.outcomes.proofs.Passed.{answered}
use Rattle.tail_findings.proofs.Told.{average_fits, average_is, tail_is}
use Rattle.tail_findings.proofs.tail_finding.Statement.{statement}
use Rattle.tail_findings.proofs.tail_finding.Tie as tie

run : (s : tie.Start) → passed.Late s.args.year s.args.packed.now
run s = answered s.args.year s.args.packed.now 18 (omega arith) s.requires

read-tail-requires : tie.Need-read_tail-tail-requires
read-tail-requires c κs =
    let s = c.before.before.before in
    (passed.opening s.args.year s.args.packed.now (run s), (passed.fields s.args.year s.args.packed.now (run s), (refl, refl)))

abbrev start : tie.After-read_tail-tail → tie.Start
start c = c.before.before.before.before

abbrev F : tie.After-read_tail-tail → Figures
F c = figures_of (start c).args.packed.now

good : (c : tie.After-read_tail-tail) → Sound (F c)
good c =
    let s = start c in
    passed.sound s.args.year s.args.packed.now (run s) (λ i. omega (arith, c.before.before.before.shared_slice_known-1.given i))

first-tail-average-requires : tie.Need-first_tail_average-requires
first-tail-average-requires c κs =
    let at = c.before in
    let read = at.read_tail-tail.ensures in
    rw (read.0, read.1.0) ((good at).tail, (good at).exposures 0 (omega arith))

average : (c : tie.After-first_tail_average) → c.first_tail_average.result ≡ first_tail_average_of (F c.before.before)
average c =
    let at = c.before.before in
    let read = at.read_tail-tail.ensures in
    c.first_tail_average.ensures ∙ average_is (F at) _ _ read.0 read.1.0

of-naturals-requires : tie.Need-of_naturals-requires
of-naturals-requires c κs =
    let at = c.before.before in
    let read = at.read_tail-tail.ensures in
    (omega (arith, read.0, (good at).tail), (rw read.1.0 (omega (arith, (good at).exposures_most 0)), omega (arith, average c, average_fits (F at) (good at))))

returns : tie.Need-returns
returns c =
    let at = c.before.before.before in
    let read = at.read_tail-tail.ensures in
    let made = c.of_naturals.ensures in (
      made ∙ rw c.before.first_tail_average.ensures (tail_is (F at) _ _ read.0 read.1.0),
      (rw made (omega arith), rw made (omega arith)),
    )

pub tail_finding_spec : {M : Type 1} → statement M
tail_finding_spec =
    tie.close
    (tie.spec
    read-tail-requires
    (λ c. search rules)
    first-tail-average-requires
    of-naturals-requires
    returns)
