-- The increments that are read are those of the record's figures. Assumes nothing.
use mathlib.Core.Path.{◌≡◌, ◌∙◌}
use native.Mathlib.Omega.{arith}
use Rattle.rules.specs.Packing.{Fit}
use Rattle.rules.specs.Record.{figures_of}
use Rattle.opening.proofs.Opened.{years_known_lem, opening_yes}
use Rattle.reading.specs.Reading.{Sound}
use Rattle.reading.proofs.FiguresRead.{figures_filled, sound_figures}
use Rattle.outcomes.proofs.Said.{cumulatives_no}
use Rattle.cumulative_findings.proofs.Read.{read_passed}
use Rattle.cumulative_findings.proofs.Cumulatives.{found_ready, found_is}
use Rattle.cumulative_findings.proofs.cumulative_finding.Statement.{statement}
use Rattle.cumulative_findings.proofs.cumulative_finding.Tie as tie

read-requires : tie.Need-read-requires
read-requires c κs = let s = c.before.before.before.before.before.before in (read_passed s.args.year s.args.packed.now s.requires).0

last-year-of-requires : tie.Need-last_year_of-requires
last-year-of-requires c κs =
    let s = c.before.before.before.before.before.before.before.before in
    (years_known_lem s.args.packed.now (opening_yes s.args.packed.now (read_passed s.args.year s.args.packed.now s.requires).0).0).0

-- the record, its last year and its increments
abbrev start : tie.After-last_year_of → tie.Start
start c = c.before.before.before.before.before.before.before.before.before

bytes : (c : tie.After-last_year_of) → Fit 8 (start c).args.packed.now
bytes c i = omega (arith, c.before.before.before.before.before.before.before.before.shared_slice_known-1.given i)

year_is : (c : tie.After-last_year_of) → c.last_year_of.result ≡ (figures_of (start c).args.packed.now).k
unfolding figures_of
year_is c = c.last_year_of.ensures.0

increments-are : (c : tie.After-last_year_of) → c.before.before.read.new.increments ≡ (figures_of (start c).args.packed.now).increments
increments-are c =
    let s = start c in
    let passed = read_passed s.args.year s.args.packed.now s.requires in
    c.before.before.read.ensures.1.1.1.0 ∙ (figures_filled s.args.packed.now (bytes c) passed.0 passed.1).increments

sound : (c : tie.After-last_year_of) → Sound (figures_of (start c).args.packed.now)
sound c =
    let s = start c in
    let passed = read_passed s.args.year s.args.packed.now s.requires in
    sound_figures s.args.packed.now (bytes c) passed.0 passed.1

cumulative-found-requires : tie.Need-cumulative_found-requires
cumulative-found-requires c κs =
    let s = start c in
    found_ready (figures_of s.args.packed.now) (sound c) (cumulatives_no s.args.year s.args.packed.now s.requires) _ _ (year_is c) (increments-are c)

returns : tie.Need-returns
returns c =
    let at = c.before in
    (c.cumulative_found.ensures.0 ∙ found_is (figures_of (start at).args.packed.now) _ _ (year_is at) (increments-are at), c.cumulative_found.ensures.1)

pub cumulative_finding_spec : {M : Type 1} → statement M
cumulative_finding_spec =
    tie.close (tie.spec read-requires last-year-of-requires cumulative-found-requires returns)
