-- The arrays that are read again are those of the record's figures (figures_filled), so the paid cumulatives, the sums and the totals are (paid_filled, sums_filled,
-- totals_filled). Assumes nothing.
use native.Mathlib.Omega.{arith}
use mathlib.Core.Path.{◌≡◌, refl, ap, ◌∙◌}
use mathlib.Core.List.{List, map}
use lib.IntN.{ℤ}
use lib.Seq.{sets}
use Prim.Native.Nat.{ℕ}
use Rattle.rules.specs.Packing.{Fit}
use Rattle.rules.specs.Record.{increment, value_of, figures_of}
use Rattle.reading.specs.Reading.{Sound, row_read}
use Rattle.reading.proofs.FiguresRead.{Filled, figures_filled, sound_figures}
use Rattle.opening.proofs.Opened.{years_known_lem, opening_yes}
use Rattle.outcomes.proofs.Again.{rows_ready, paid_filled, sums_filled, totals_filled}
use Rattle.outcomes.proofs.read_again.Statement.{statement}
use Rattle.outcomes.proofs.read_again.Tie as tie

abbrev start : tie.After-read-opened → tie.Start
start c = c.before.before.before.before.before.before.before

bytes : (c : tie.After-read-opened) → Fit 8 (start c).args.packed.now
bytes c i = omega (arith, c.before.before.before.before.before.before.shared_slice_known-1.given i)

arrays : (c : tie.After-read-opened) → Filled (start c).args.packed.now
arrays c = let s = start c in figures_filled s.args.packed.now (bytes c) s.requires.0 s.requires.1.0

sound : (c : tie.After-read-opened) → Sound (figures_of (start c).args.packed.now)
sound c = let s = start c in sound_figures s.args.packed.now (bytes c) s.requires.0 s.requires.1.0

exposures-are : (c : tie.After-read-opened) → c.read-opened.new.exposures ≡ (figures_of (start c).args.packed.now).exposures
exposures-are c = c.read-opened.ensures.1.1.0 ∙ (arrays c).exposures

increments-are : (c : tie.After-read-opened) → c.read-opened.new.increments ≡ (figures_of (start c).args.packed.now).increments
increments-are c =
    let s = start c in
    c.read-opened.ensures.1.1.1.0 ∙ ap (λ (l : List ℤ). sets l 0 (map (value_of increment) (row_read s.args.packed.now 2))) s.requires.1.1.1.0 ∙ (arrays c).increments

reporting-are : (c : tie.After-read-opened) → c.read-opened.new.reporting ≡ (figures_of (start c).args.packed.now).reporting
reporting-are c =
    let s = start c in
    c.read-opened.ensures.1.1.1.1.1.0 ∙ ap (λ (l : List ℕ). sets l 0 (row_read s.args.packed.now 4)) s.requires.1.1.1.1.0 ∙ (arrays c).reporting

ulae-are : (c : tie.After-read-opened) → c.read-opened.new.ulae ≡ (figures_of (start c).args.packed.now).ulae
ulae-are c =
    let s = start c in
    c.read-opened.ensures.1.1.1.1.1.1.0 ∙ ap (λ (l : List ℕ). sets l 0 (row_read s.args.packed.now 6)) s.requires.1.1.1.1.1.0 ∙ (arrays c).ulae

year_is : (c : tie.After-last_year_of) → c.last_year_of.result ≡ (figures_of (start c.before).args.packed.now).k
unfolding figures_of
year_is c = c.last_year_of.ensures.0

read-requires : tie.Need-read-opened-requires
read-requires c κs = let s = c.before.before.before.before.before.before in s.requires.0

last-year-of-requires : tie.Need-last_year_of-requires
last-year-of-requires c κs = let s = start c in (years_known_lem s.args.packed.now (opening_yes s.args.packed.now s.requires.0).0).0

fill-rows-requires : tie.Need-fill_rows-requires
fill-rows-requires c κs =
    let year = c.before.before.before.before.before.before in
    let at = year.before in
    let s = start at in
    let ready = rows_ready (figures_of s.args.packed.now) _ _ _ (year_is year) (exposures-are at) (increments-are at) (sound at) in
    (ready.0, (ready.1.0, (ready.1.1, (refl, (s.requires.1.1.1.1.1.1.1, s.requires.1.1.1.1.1.1.0)))))

returns : tie.Need-returns
returns c =
    let year = c.before.before.before.before.before.before.before in
    let at = year.before in
    let s = start at in
    let f = figures_of s.args.packed.now in
    let six = s.requires.1.1.0 in (
      at.read-opened.ensures.1.0 ∙ (arrays at).weight,
      (
        increments-are at,
        (
          reporting-are at,
          (
            ulae-are at,
            (
              paid_filled f _ _ _ (year_is year) (exposures-are at) (increments-are at) six _ c.fill_rows.ensures.1.1.1.0,
              (
                sums_filled f _ _ _ (year_is year) (exposures-are at) (increments-are at) six _ c.fill_rows.ensures.1.1.0,
                totals_filled f _ _ _ (year_is year) (exposures-are at) (increments-are at) (sound at) six _ _ c.fill_rows.ensures.1.1.1.1,
              ),
            ),
          ),
        ),
      ),
    )

pub read_again_spec : {M : Type 1} → statement M
read_again_spec = tie.close (tie.spec read-requires last-year-of-requires fill-rows-requires returns)
