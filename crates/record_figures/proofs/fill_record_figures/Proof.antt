-- The arrays that are read are those of the record's figures (arrays), which are small enough (given). Assumes nothing.
use native.Mathlib.Omega.{arith}
use mathlib.Core.Path.{◌≡◌, ◌∙◌}
use Rattle.rules.specs.Packing.{Fit}
use Rattle.rules.specs.Record.{last_year_of, figures_of}
use Rattle.reading.proofs.FiguresRead.{Filled}
use Rattle.opening.proofs.Opened.{years_known_lem, opening_yes}
use Rattle.record_figures.proofs.Read.{arrays, ready, figures_are}
use borrow.Author.Rules.{rules}
use Rattle.record_figures.proofs.fill_record_figures.Statement.{statement}
use Rattle.record_figures.proofs.fill_record_figures.Tie as tie

abbrev start : tie.After-read-opened → tie.Start
start c = c.before.before.before.before.before.before.before

bytes : (c : tie.After-read-opened) → Fit 8 (start c).args.packed.now
bytes c i = omega (arith, c.before.before.before.before.before.before.shared_slice_known-1.given i)

filled : (c : tie.After-read-opened) → Filled (start c).args.packed.now
filled c = let s = start c in arrays s.args.packed.now (bytes c) s.requires.0 s.requires.1.0

exposures-are : (c : tie.After-read-opened) → c.read-opened.new.exposures ≡ (figures_of (start c).args.packed.now).exposures
exposures-are c = c.read-opened.ensures.1.1.0 ∙ (filled c).exposures

increments-are : (c : tie.After-read-opened) → c.read-opened.new.increments ≡ (figures_of (start c).args.packed.now).increments
increments-are c = c.read-opened.ensures.1.1.1.0 ∙ (filled c).increments

indices-are : (c : tie.After-read-opened) → c.read-opened.new.indices ≡ (figures_of (start c).args.packed.now).indices
indices-are c = c.read-opened.ensures.1.1.1.1.0 ∙ (filled c).indices

reporting-are : (c : tie.After-read-opened) → c.read-opened.new.reporting ≡ (figures_of (start c).args.packed.now).reporting
reporting-are c = c.read-opened.ensures.1.1.1.1.1.0 ∙ (filled c).reporting

ulae-are : (c : tie.After-read-opened) → c.read-opened.new.ulae ≡ (figures_of (start c).args.packed.now).ulae
ulae-are c = c.read-opened.ensures.1.1.1.1.1.1.0 ∙ (filled c).ulae

year_is : (c : tie.After-last_year_of) → c.last_year_of.result ≡ (figures_of c.before.before.before.before.before.before.before.before.before.before.before.before.before.before.args.packed.now).k
unfolding figures_of
year_is c = c.last_year_of.ensures.0

last-year-of-requires : tie.Need-last_year_of-requires
last-year-of-requires c κs =
    let s = c.before.before.before.before.before.before.before.before.before.before.before.before.before in
    (years_known_lem s.args.packed.now (opening_yes s.args.packed.now s.requires.0).0).0

fill-figures-requires : tie.Need-fill_figures-requires
unfolding figures_of
fill-figures-requires c κs =
    let at = c.before.before.before.before.before.before.before in
    let s = start at in
    let all =
    ready s.args.packed.now (bytes at) s.requires.0 s.requires.1.0 _ _ _ _ _ _ (year_is c) (exposures-are at) (increments-are at) (indices-are at) (reporting-are at) (ulae-are at)
    s.args.list.now s.requires.1.1.0 in
    (all.0, (s.requires.1.1.1, all.1))

returns : tie.Need-returns
returns c =
    let at = c.before.before.before.before.before.before.before.before in
    let s = start at in (
      at.read-opened.ensures.1.0 ∙ (filled at).weight,
      (
        at.read-opened.ensures.1.1.1.1.1.1.1 ∙ (filled at).tail,
        c.fill_figures.ensures
            ∙ figures_are s.args.packed.now (bytes at) s.requires.0 s.requires.1.0 _ _ _ _ _ _ (year_is c.before) (exposures-are at) (increments-are at) (indices-are at) (reporting-are at)
            (ulae-are at) s.args.list.now,
      ),
    )

pub fill_record_figures_spec : {M : Type 1} → statement M
fill_record_figures_spec = tie.close (tie.spec (λ c κs. search rules) last-year-of-requires fill-figures-requires returns)
