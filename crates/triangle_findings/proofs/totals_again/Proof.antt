-- The totals that are read again are those of the square of the record's figures. Assumes nothing.
use native.Mathlib.Omega.{arith}
use mathlib.Core.Path.{◌≡◌, refl}
use Rattle.rules.specs.Packing.{Fit}
use Rattle.rules.specs.Record.{figures_of}
use Rattle.opening.proofs.Opened.{years_known_lem, opening_yes}
use Rattle.reading.proofs.FiguresRead.{sound_figures}
use Rattle.triangle_findings.proofs.Again.{summed}
use Rattle.triangle_findings.proofs.totals_again.Statement.{statement}
use Rattle.triangle_findings.proofs.totals_again.Tie as tie

read-again-requires : tie.Need-read_again-requires
read-again-requires c κs =
    let passed = c.before.before.before.before.before.before.before.before.requires in
    (passed.0, (passed.1.0, (passed.1.1, (refl, (refl, (refl, (refl, refl)))))))

last-year-of-requires : tie.Need-last_year_of-requires
last-year-of-requires c κs =
    let s = c.before.before.before.before.before.before.before.before.before in
    (years_known_lem s.args.packed.now (opening_yes s.args.packed.now s.requires.0).0).0

-- the record, its last year, and what its figures are
abbrev start : tie.After-last_year_of → tie.Start
start c = c.before.before.before.before.before.before.before.before.before.before

year_is : (c : tie.After-last_year_of) → c.last_year_of.result ≡ (figures_of (start c).args.packed.now).k
unfolding figures_of
year_is c = c.last_year_of.ensures.0

bytes : (c : tie.After-last_year_of) → Fit 8 (start c).args.packed.now
bytes c i = omega (arith, c.before.before.before.before.before.before.before.before.before.shared_slice_known-1.given i)

returns : tie.Need-returns
returns c =
    let s = start c in
    let totals = c.before.read_again.ensures.1.1.1.1.1.1 in
    (year_is c, (c.last_year_of.ensures.1, summed (figures_of s.args.packed.now) (sound_figures s.args.packed.now (bytes c) s.requires.0 s.requires.1.0) _ _ totals))

pub totals_again_spec : {M : Type 1} → statement M
totals_again_spec = tie.close (tie.spec read-again-requires last-year-of-requires returns)
