-- The figures of a list of zeros (NoList). Assumes nothing.
use native.Mathlib.Omega.{arith}
use mathlib.Core.Path.{◌≡◌, refl}
use Rattle.rules.specs.Packing.{Fit}
use Rattle.rules.specs.Record.{figures_of}
use Rattle.opening.proofs.Opened.{years_known_lem, opening_yes}
use Rattle.record_figures.proofs.Read.{sound}
use Rattle.refused_page.specs.RefusedPage.{input_figures, refused_inputs}
use Rattle.refused_page.proofs.NoList.{zeros_listed, input_figured, input_told}
use borrow.Author.Rules.{rules}
use Rattle.refused_page.proofs.put_refused_inputs.Statement.{statement}
use Rattle.refused_page.proofs.put_refused_inputs.Tie as tie

bytes : (c : tie.After-shared_slice_known-1) → Fit 8 c.before.before.args.packed.now
bytes c i = omega (arith, c.shared_slice_known-1.given i)

fill-record-figures-requires : tie.Need-fill_record_figures-opened-requires
unfolding figures_of
fill-record-figures-requires c κs =
    let k = c.before.before in
    let s = k.before.before in
    let packed = s.args.packed.now in
    let one = s.requires.1.1.0 in
    let four = s.requires.1.1.1 in
    (one, (four, (zeros_listed (figures_of packed).k (sound packed (bytes k) one four).few, refl)))

last-year-of-requires : tie.Need-last_year_of-k-requires
last-year-of-requires c κs =
    let s = c.before.before.before.before.before in
    (years_known_lem s.args.packed.now (opening_yes s.args.packed.now s.requires.1.1.0).0).0

-- what is read, and the years of it
figures_are : (c : tie.After-fill_record_figures-opened) → c.fill_record_figures-opened.new.figures ≡ input_figures c.before.before.before.before.before.args.packed.now
unfolding input_figures
figures_are c = c.fill_record_figures-opened.ensures.1.1

years-are : (c : tie.After-last_year_of-k) → c.last_year_of-k.result ≡ (figures_of c.before.before.before.before.before.before.args.packed.now).k
unfolding figures_of
years-are c = c.last_year_of-k.ensures.0

fill-summary-requires : tie.Need-fill_summary-requires
fill-summary-requires c κs =
    let k = c.before.before in
    let r = k.before in
    let at = r.before.before.before in
    let s = at.before.before in
    let packed = s.args.packed.now in
    let one = s.requires.1.1.0 in
    let four = s.requires.1.1.1 in (
      k.last_year_of-k.ensures.1,
      (
        rw (years-are k, figures_are r) (input_figured packed (bytes at) one four),
        (rw (r.fill_record_figures-opened.ensures.0, r.fill_record_figures-opened.ensures.1.0) (input_told packed (bytes at) one four s.args.year s.requires.1.0), refl),
      ),
    )

put-input-section-requires : tie.Need-put_input_section-requires
put-input-section-requires c κs =
    let k = c.before.before.before.before.before.before in
    let r = k.before in
    let at = r.before.before.before in
    let s = at.before.before in
    (k.last_year_of-k.ensures.1, (s.requires.0, rw (years-are k, figures_are r) (input_figured s.args.packed.now (bytes at) s.requires.1.1.0 s.requires.1.1.1)))

returns : tie.Need-returns
unfolding refused_inputs
returns c =
    let f = c.before.before.before.before.before.before in
    let k = f.before.before.before in
    let r = k.before in
    rw (f.fill_summary.ensures, r.fill_record_figures-opened.ensures.0, r.fill_record_figures-opened.ensures.1.0, figures_are r, k.last_year_of-k.ensures.0) at c.before.before.put_input_section.ensures

pub put_refused_inputs_spec : {M : Type 1} → statement M
put_refused_inputs_spec =
    tie.close
    (tie.spec fill-record-figures-requires last-year-of-requires fill-summary-requires put-input-section-requires (λ c. search rules) returns)
