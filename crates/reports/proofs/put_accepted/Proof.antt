-- The figures and the single figures of the list that the engine filled (Accepted). Assumes nothing.
use native.Mathlib.Omega.{arith}
use mathlib.Core.Path.{◌≡◌, refl}
use Rattle.rules.specs.Packing.{Fit}
use Rattle.rules.specs.Record.{figures_of}
use Rattle.outcomes.specs.Outcome.{filled_by}
use Rattle.outcomes.proofs.Passed.{accepted, opening, fields, some}
use Rattle.record_figures.specs.RecordFigures.{record_figures}
use Rattle.reports.specs.Report.{report_of}
use Rattle.reports.proofs.Accepted.{listed, figured_by, told_by}
use borrow.Author.Rules.{rules}
use Rattle.reports.proofs.put_accepted.Statement.{statement}
use Rattle.reports.proofs.put_accepted.Tie as tie

bytes : (c : tie.After-shared_slice_known-3-1) → Fit 8 c.before.before.before.before.args.packed.now
bytes c i = omega (arith, c.shared_slice_known-3-1.given i)

fill-record-figures-requires : tie.Need-fill_record_figures-opened-requires
unfolding figures_of
fill-record-figures-requires c κs =
    let at = c.before in
    let s = at.before.before.before.before in
    let year = s.args.year in
    let packed = s.args.packed.now in
    let ok = s.requires.1.1.0 in
    let run = accepted year packed ok in
    (opening year packed run, (fields year packed run, (rw s.requires.1.1.1 (listed year packed (bytes at) ok), refl)))

last-year-of-requires : tie.Need-last_year_of-k-requires
last-year-of-requires c κs =
    let s = c.before.before.before.before.before.before.before.before in
    some s.args.year s.args.packed.now (accepted s.args.year s.args.packed.now s.requires.1.1.0)

-- what is read, and the years of it
figures_are : (c : tie.After-fill_record_figures-opened)
    → c.fill_record_figures-opened.new.figures ≡ record_figures (filled_by c.before.before.before.before.before.before.args.year c.before.before.before.before.before.before.args.packed.now) c.before.before.before.before.before.before.args.packed.now
figures_are c = rw c.before.before.before.before.before.before.requires.1.1.1 at c.fill_record_figures-opened.ensures.1.1

years-are : (c : tie.After-last_year_of-k) → c.last_year_of-k.result ≡ (figures_of c.before.before.before.before.before.before.before.before.before.args.packed.now).k
unfolding figures_of
years-are c = c.last_year_of-k.ensures.0

fill-summary-requires : tie.Need-fill_summary-requires
fill-summary-requires c κs =
    let k = c.before.before in
    let x = k.before in
    let r = x.before.before in
    let at = r.before.before in
    let s = at.before.before.before.before in
    let year = s.args.year in
    let packed = s.args.packed.now in
    let ok = s.requires.1.1.0 in (
      k.last_year_of-k.ensures.1,
      (
        rw (years-are k, figures_are r) (figured_by year packed (bytes at) ok),
        (rw (r.fill_record_figures-opened.ensures.0, r.fill_record_figures-opened.ensures.1.0) (told_by year packed (bytes at) ok s.requires.1.0 _ x.read_accepted-correction.ensures.1.0), refl),
      ),
    )

shown-rates-requires : tie.Need-shown_rates-rates-requires
shown-rates-requires c κs =
    let s = c.before.before.before.before.before.before.before.before.before.before.before.before in
    let run = accepted s.args.year s.args.packed.now s.requires.1.1.0 in
    (opening s.args.year s.args.packed.now run, fields s.args.year s.args.packed.now run)

put-accepted-page-requires : tie.Need-put_accepted_page-requires
put-accepted-page-requires c κs =
    let k = c.before.before.before.before.before.before.before in
    let r = k.before.before.before in
    let at = r.before.before in
    let s = at.before.before.before.before in
    (k.last_year_of-k.ensures.1, (s.requires.0, rw (years-are k, figures_are r) (figured_by s.args.year s.args.packed.now (bytes at) s.requires.1.1.0)))

returns : tie.Need-returns
unfolding report_of
returns c =
    let h = c.before.before.before.before.before.before in
    let f = h.before in
    let k = f.before.before.before in
    let x = k.before in
    let r = x.before.before in
    let s = r.before.before.before.before.before.before in
    rw s.requires.1.1.0
    (rw (h.shown_rates-rates.ensures, f.fill_summary.ensures, r.fill_record_figures-opened.ensures.0, r.fill_record_figures-opened.ensures.1.0, figures_are r, k.last_year_of-k.ensures.0, x.read_accepted-correction.ensures.0) at c.before.before.put_accepted_page.ensures)

pub put_accepted_spec : {M : Type 1} → statement M
put_accepted_spec =
    tie.close
    (tie.spec fill-record-figures-requires (λ c κs. search rules) last-year-of-requires fill-summary-requires shown-rates-requires put-accepted-page-requires (λ c. search rules) returns)
