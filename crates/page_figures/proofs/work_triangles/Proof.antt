-- One section after another, from the given ones. Assumes nothing.
use Prim.Native.Nat.{ℕ, ◌+◌, ◌*◌, ◌≤◌}
use native.Mathlib.Omega.{arith}
use mathlib.Core.Path.{◌≡◌, refl, ap, ◌∙◌}
use mathlib.Core.List.{List}
use lib.IntN.{ℤ}
use mir.Syntax.{w64}
use mir.Val.{Fits}
use Rattle.rules.specs.Record.{cells}
use Rattle.listing.specs.Starts.{starts_of}
use Rattle.signed_sums.specs.Small.{most_figure}
use Rattle.figure_places.specs.Places.{added_at}
use Rattle.page_figures.specs.Given.{most_given, Based}
use Rattle.page_figures.specs.Shown.{with_cumulatives, with_paid, with_running, with_changes, worked_triangles}
use Rattle.page_figures.proofs.Numbers.{Numbers, numbers}
use Rattle.page_figures.proofs.Bases.{sized_part, based_cumulatives, based_paid, based_running}
use borrow.Author.Rules.{rules}
use Rattle.page_figures.proofs.work_triangles.Statement.{statement}
use Rattle.page_figures.proofs.work_triangles.Tie as tie

-- the places are those of k
at-is : (s : tie.Start) → s.args.at ≡ added_at s.args.k
at-is s = s.requires.1.1.0

starts-are : (s : tie.Start) → s.args.starts ≡ starts_of s.args.k
starts-are s = s.requires.1.0

where-all : (s : tie.Start) → Numbers (added_at s.args.k) (starts_of s.args.k) s.args.k
where-all s = numbers (added_at s.args.k) (starts_of s.args.k) s.args.k s.requires.0 refl refl

-- the levels' place is small
levels-room : (s : tie.Start) → Fits w64 (s.args.starts.levels + 1)
levels-room s =
    let n = numbers s.args.at s.args.starts s.args.k s.requires.0 (at-is s) (starts-are s) in
    record { fits = omega arith }

-- what each call leaves
first : (c : tie.After-put_rows_running) → c.put_rows_running.new.out ≡ with_cumulatives c.before.before.args.k c.before.before.args.out.now
unfolding with_cumulatives
first c = rw (at-is c.before.before) at c.put_rows_running.ensures

second : (c : tie.After-put_row_sums) → c.put_row_sums.new.out ≡ with_paid c.before.before.before.before.args.k (with_cumulatives c.before.before.before.before.args.k c.before.before.before.before.args.out.now)
unfolding with_paid
second c = rw (at-is c.before.before.before.before, first c.before.before) at c.put_row_sums.ensures

put-rows-running-requires : tie.Need-put_rows_running-requires
put-rows-running-requires c κs =
    let s = c.before in
    let n = where-all s in
    rw (at-is s)
    (s.requires.0, (omega arith, (omega arith, sized_part most_given most_figure (added_at s.args.k).cumulatives (added_at s.args.k).increments (cells s.args.k) s.args.out.now (omega arith) (omega arith) s.requires.1.1.1.entries)))

put-row-sums-requires : tie.Need-put_row_sums-requires
put-row-sums-requires c κs =
    let s = c.before.before.before in
    let n = where-all s in
    let xs = with_cumulatives s.args.k s.args.out.now in
    let b = based_cumulatives s.args.k s.args.out.now s.requires.1.1.1 in
    rw (at-is s, first c.before)
    (s.requires.0, (omega arith, (omega arith, sized_part most_given most_figure (added_at s.args.k).cumulatives (added_at s.args.k).increments (cells s.args.k) xs (omega arith) (omega arith) b.entries)))

put-running-requires : tie.Need-put_running-requires
put-running-requires c κs =
    let s = c.before.before.before.before.before in
    let n = where-all s in
    let xs = with_paid s.args.k (with_cumulatives s.args.k s.args.out.now) in
    let b = based_paid s.args.k (with_cumulatives s.args.k s.args.out.now) (based_cumulatives s.args.k s.args.out.now s.requires.1.1.1) in
    rw (at-is s, starts-are s, second c.before)
    (omega arith, (omega arith, (omega arith, sized_part most_given most_figure (added_at s.args.k).cumulatives (starts_of s.args.k).shares (s.args.k + 1) xs (omega arith) (omega arith) b.entries)))

third : (c : tie.After-put_running) → c.put_running.new.out ≡ with_running c.before.before.before.before.before.before.args.k (with_paid c.before.before.before.before.before.before.args.k (with_cumulatives c.before.before.before.before.before.before.args.k c.before.before.before.before.before.before.args.out.now))
unfolding with_running starts_of
third c =
    let s = c.before.before.before.before.before.before in
    rw (at-is s, starts-are s, second c.before.before) at c.put_running.ensures

put-combined-requires : tie.Need-put_combined-requires
put-combined-requires c κs =
    let s = c.before.before.before.before.before.before.before.before in
    let n = where-all s in
    let ys = with_paid s.args.k (with_cumulatives s.args.k s.args.out.now) in
    let xs = with_running s.args.k ys in
    let b = based_running s.args.k ys (based_paid s.args.k (with_cumulatives s.args.k s.args.out.now) (based_cumulatives s.args.k s.args.out.now s.requires.1.1.1)) in
    rw (at-is s, starts-are s, third c.before.before) (
      omega arith,
      (
        omega arith,
        (
          omega arith,
          (
            sized_part most_given most_figure (added_at s.args.k).cumulatives ((starts_of s.args.k).levels + 1) (2 * s.args.k) xs (omega arith) (omega arith) b.entries,
            sized_part most_given most_figure (added_at s.args.k).cumulatives (starts_of s.args.k).levels (2 * s.args.k) xs (omega arith) (omega arith) b.entries,
          ),
        ),
      ),
    )

returns : tie.Need-returns
unfolding worked_triangles with_changes starts_of
returns c =
    let s = c.before.before.before.before.before.before.before.before.before in
    rw (at-is s, starts-are s, third c.before.before.before) at c.put_combined.ensures

pub work_triangles_spec : {M : Type 1} → statement M
work_triangles_spec =
    tie.close
    (tie.spec
    put-rows-running-requires
    put-row-sums-requires
    (λ c. omega arith)
    put-running-requires
    (λ c. levels-room c.before.before.before.before.before.before.before.before)
    (λ c. omega arith)
    put-combined-requires
    returns)
