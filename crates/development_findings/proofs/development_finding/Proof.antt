-- The column sums and the paid cumulatives are read again (development_is). Assumes nothing.
use mathlib.Core.Path.{◌≡◌, refl, ◌∙◌}
use native.Mathlib.Omega.{arith}
use Rattle.rules.specs.Record.{figures_of}
use Rattle.opening.proofs.Opened.{years_known_lem, opening_yes}
use Rattle.outcomes.proofs.Said.{development_no}
use Rattle.triangle_findings.proofs.Again.{late}
use Rattle.development_findings.proofs.Development.{ready, development_is}
use Rattle.development_findings.proofs.development_finding.Statement.{statement}
use Rattle.development_findings.proofs.development_finding.Tie as tie

read-again-requires : tie.Need-read_again-requires
read-again-requires c κs =
    let s = c.before.before.before.before.before.before.before.before in
    let passed = late s.args.year s.args.packed.now 13 (omega arith) s.requires in
    (passed.0, (passed.1.0, (passed.1.1, (refl, (refl, (refl, (refl, refl)))))))

last-year-of-requires : tie.Need-last_year_of-requires
last-year-of-requires c κs =
    let s = c.before.before.before.before.before.before.before.before.before.before.before in
    (years_known_lem s.args.packed.now (opening_yes s.args.packed.now (late s.args.year s.args.packed.now 13 (omega arith) s.requires).0).0).0

abbrev start : tie.After-last_year_of → tie.Start
start c = c.before.before.before.before.before.before.before.before.before.before.before.before

year_is : (c : tie.After-last_year_of) → c.last_year_of.result ≡ (figures_of (start c).args.packed.now).k
unfolding figures_of
year_is c = c.last_year_of.ensures.0

development-found-requires : tie.Need-development_found-requires
development-found-requires c κs =
    let s = start c in
    let read = c.before.before.before.read_again.ensures in
    ready (figures_of s.args.packed.now) (development_no s.args.year s.args.packed.now s.requires) _ _ _ (year_is c) c.last_year_of.ensures.1
    read.1.1.1.1.1.0 read.1.1.1.1.0 (late s.args.year s.args.packed.now 13 (omega arith) s.requires).1.1

returns : tie.Need-returns
returns c =
    let at = c.before in
    let s = start at in
    let read = at.before.before.before.read_again.ensures in (
      c.development_found.ensures.0
          ∙ development_is (figures_of s.args.packed.now) (development_no s.args.year s.args.packed.now s.requires) _ _ _ (year_is at) at.last_year_of.ensures.1
          read.1.1.1.1.1.0 read.1.1.1.1.0,
      c.development_found.ensures.1,
    )

pub development_finding_spec : {M : Type 1} → statement M
development_finding_spec =
    tie.close
    (tie.spec read-again-requires last-year-of-requires development-found-requires returns)
