-- The report that was found is shown. Assumes nothing.
use mathlib.Core.Path.{sym}
use native.Mathlib.Omega.{arith}
use Rattle.rules.specs.Packing.{Fit}
use Rattle.titled_input.proofs.Inputs.{record-part}
use Rattle.hindsight_reports.specs.Reported.{csv_of}
use Rattle.hindsight_reports.proofs.Shown.{found_report, reported}
use Rattle.hindsight_reports.proofs.csv_hindsight.Goals as goal

pub hindsight_csv_of-requires : goal.hindsight_csv_of-requires
hindsight_csv_of-requires c =
    let input = c.args.input.now in
    let bytes : Fit 8 input = λ i. omega (arith, c.type_inv.input i) in
    let p = c.parts_of-parts in
    let found = rw (p.ensures.rated, record-part input p.result p.ensures) at c.in_ok-found.ensures.listed_value in
    let some = sym found.0 in
    let report = found.1.0 in
    let known = reported input bytes some _ _ report.0 c.first_of.ensures.1 in
    ((known.tried, rw (found_report input bytes some _ report.1) known.small), known.indices)

pub returns-clause-listed_value : goal.returns-clause-listed_value
unfolding csv_of
returns-clause-listed_value c =
    let input = c.args.input.now in
    let bytes : Fit 8 input = λ i. omega (arith, c.type_inv.input i) in
    let p = c.parts_of-parts in
    let found = rw (p.ensures.rated, record-part input p.result p.ensures) at c.in_ok-found.ensures.listed_value in
    let report = found.1.0 in
    (found.0, (rw (c.first_of.ensures.0, report.0.years, report.0.tried, report.0.settings, found_report input bytes (sym found.0) _ report.1) at c.hindsight_csv_of.ensures.upper_bound, tt))
