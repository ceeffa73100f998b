-- One section after another, from the given ones. Assumes nothing.
use Prim.Native.Nat.{ℕ, ◌+◌, ◌*◌, ◌≤◌}
use native.Mathlib.Omega.{arith}
use mathlib.Core.Path.{◌≡◌, refl}
use Rattle.rules.specs.Record.{million, cells}
use Rattle.rules.specs.Triangle.{future_start}
use Rattle.rules.specs.Separation.{billion}
use Rattle.listing.specs.Starts.{starts_of}
use Rattle.signed_sums.specs.Small.{most_figure}
use Rattle.figure_places.specs.Places.{added_at}
use Rattle.page_figures.specs.Given.{most_given}
use Rattle.page_figures.specs.Shown.{with_expected, with_fitted, with_allowances, with_margins, with_ladder, worked_figures}
use Rattle.page_figures.proofs.Numbers.{Numbers, numbers}
use Rattle.page_figures.proofs.Bases.{sized_part, based_expected, based_fitted, based_allowances}
use Rattle.page_figures.proofs.work_figures.Statement.{statement}
use Rattle.page_figures.proofs.work_figures.Tie as tie

-- the places are those of k
at-is : (s : tie.Start) → s.args.at ≡ added_at s.args.k
at-is s = s.requires.1.1.0

starts-are : (s : tie.Start) → s.args.starts ≡ starts_of s.args.k
starts-are s = s.requires.1.0

where-all : (s : tie.Start) → Numbers (added_at s.args.k) (starts_of s.args.k) s.args.k
where-all s = numbers (added_at s.args.k) (starts_of s.args.k) s.args.k s.requires.0 refl refl

first : (c : tie.After-put_expected) → c.put_expected.new.out ≡ (with_expected c.before.before.args.k c.before.before.args.out.now)
unfolding with_expected starts_of
first c =
    let s = c.before.before in
    rw (at-is s, starts-are s) at c.put_expected.ensures

second : (c : tie.After-put_fitted) → c.put_fitted.new.out ≡ (with_fitted c.before.before.before.before.args.k (with_expected c.before.before.before.before.args.k c.before.before.before.before.args.out.now))
unfolding with_fitted starts_of
second c =
    let s = c.before.before.before.before in
    rw (at-is s, starts-are s, first c.before.before) at c.put_fitted.ensures

third : (c : tie.After-put_allowances) → c.put_allowances.new.out ≡ (with_allowances c.before.before.before.before.before.before.args.k (with_fitted c.before.before.before.before.before.before.args.k (with_expected c.before.before.before.before.before.before.args.k c.before.before.before.before.before.before.args.out.now)))
unfolding with_allowances starts_of
third c =
    let s = c.before.before.before.before.before.before in
    rw (at-is s, second c.before.before) at c.put_allowances.ensures

fourth : (c : tie.After-put_allowances-2) → c.put_allowances-2.new.out ≡ (with_margins c.before.before.before.before.before.before.before.before.args.k (with_allowances c.before.before.before.before.before.before.before.before.args.k (with_fitted c.before.before.before.before.before.before.before.before.args.k (with_expected c.before.before.before.before.before.before.before.before.args.k c.before.before.before.before.before.before.before.before.args.out.now))))
unfolding with_margins starts_of
fourth c =
    let s = c.before.before.before.before.before.before.before.before in
    rw (at-is s, third c.before.before) at c.put_allowances-2.ensures

put-expected-requires : tie.Need-put_expected-requires
unfolding starts_of
put-expected-requires c κs =
    let s = c.before in
    let n = where-all s in
    let b = s.requires.1.1.1 in
    rw (at-is s, starts-are s)
    (s.requires.0, (omega arith, (omega arith, (omega arith, (sized_part most_given most_figure (added_at s.args.k).cumulatives (starts_of s.args.k).payments (future_start (s.args.k + 1)) s.args.out.now (omega arith) (omega arith) b.entries, sized_part most_given most_figure (added_at s.args.k).cumulatives (starts_of s.args.k).tails (s.args.k + 1) s.args.out.now (omega arith) (omega arith) b.entries)))))

put-fitted-requires : tie.Need-put_fitted-requires
unfolding starts_of
put-fitted-requires c κs =
    let s = c.before.before.before in
    let n = where-all s in
    let b = (based_expected s.args.k s.args.out.now s.requires.1.1.1) in
    rw (at-is s, starts-are s, first c.before)
    (s.requires.0, (omega arith, (omega arith, (omega arith, (b.shares, b.levels)))))

put-allowances-requires : tie.Need-put_allowances-requires
unfolding starts_of
put-allowances-requires c κs =
    let s = c.before.before.before.before.before in
    let n = where-all s in
    let b = (based_fitted s.args.k (with_expected s.args.k s.args.out.now) (based_expected s.args.k s.args.out.now s.requires.1.1.1)) in
    rw (at-is s, second c.before)
    (s.requires.0, (omega arith, (omega arith, (omega arith, b.exposures))))

put-allowances-requires-2 : tie.Need-put_allowances-requires-2
unfolding starts_of
put-allowances-requires-2 c κs =
    let s = c.before.before.before.before.before.before.before in
    let n = where-all s in
    let b = (based_allowances s.args.k (with_fitted s.args.k (with_expected s.args.k s.args.out.now)) (based_fitted s.args.k (with_expected s.args.k s.args.out.now) (based_expected s.args.k s.args.out.now s.requires.1.1.1))) in
    rw (at-is s, third c.before)
    (s.requires.0, (omega arith, (omega arith, (omega arith, b.exposures))))

put-ladder-ultimates-requires : tie.Need-put_ladder_ultimates-requires
put-ladder-ultimates-requires c κs =
    let s = c.before.before.before.before.before.before.before.before.before in
    let n = where-all s in
    rw (at-is s, starts-are s) (s.requires.0, (omega arith, (omega arith, omega arith)))

returns : tie.Need-returns
unfolding worked_figures with_ladder starts_of
returns c =
    let s = c.before.before.before.before.before.before.before.before.before.before in
    rw (at-is s, starts-are s, fourth c.before.before) at c.put_ladder_ultimates.ensures

pub work_figures_spec : {M : Type 1} → statement M
work_figures_spec =
    tie.close
    (tie.spec put-expected-requires put-fitted-requires put-allowances-requires put-allowances-requires-2 put-ladder-ultimates-requires returns)
