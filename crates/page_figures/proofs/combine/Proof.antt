-- One section after another, from those that are worked out. Assumes nothing.
use Prim.Native.Nat.{ℕ, ◌+◌, ◌≤◌}
use native.Mathlib.Omega.{arith}
use mathlib.Core.Path.{◌≡◌, refl}
use Rattle.rules.specs.Lists.{total}
use Rattle.rules.specs.Record.{cells}
use Rattle.rules.specs.Results.{average_section, provision_section, section_start}
use Rattle.listing.specs.Starts.{starts_of}
use Rattle.listing.proofs.Known.{known}
use Rattle.signed_sums.specs.Small.{most_figure}
use Rattle.figure_places.specs.Places.{added_at}
use Rattle.page_figures.specs.Given.{most_worked}
use Rattle.page_figures.specs.Shown.{with_remaining, with_ultimates, with_gaps, with_differences, with_gap_sums, combined_figures}
use Rattle.page_figures.proofs.Numbers.{Numbers, numbers}
use Rattle.page_figures.proofs.Bases.{sized_part}
use Rattle.page_figures.proofs.Combining.{first, second, third, fourth}
use borrow.Author.Rules.{rules}
use Rattle.page_figures.proofs.combine.Statement.{statement}
use Rattle.page_figures.proofs.combine.Tie as tie

-- the places are those of k
at-is : (s : tie.Start) → s.args.at ≡ added_at s.args.k
at-is s = s.requires.1.1.0

starts-are : (s : tie.Start) → s.args.starts ≡ starts_of s.args.k
starts-are s = s.requires.1.0

where-all : (s : tie.Start) → Numbers (added_at s.args.k) (starts_of s.args.k) s.args.k
where-all s = numbers (added_at s.args.k) (starts_of s.args.k) s.args.k s.requires.0 refl refl

first-is : (c : tie.After-put_combined) → c.put_combined.new.out ≡ (with_remaining c.before.before.args.k c.before.before.args.out.now)
unfolding with_remaining starts_of section_start total
first-is c =
    let s = c.before.before in
    rw (at-is s) at c.put_combined.ensures

second_is : (c : tie.After-put_combined-2) → c.put_combined-2.new.out ≡ (with_ultimates c.before.before.before.before.args.k (with_remaining c.before.before.before.before.args.k c.before.before.before.before.args.out.now))
unfolding with_ultimates starts_of section_start total
second_is c =
    let s = c.before.before.before.before in
    rw (at-is s, starts-are s, first-is c.before.before) at c.put_combined-2.ensures

third-is : (c : tie.After-put_combined-3) → c.put_combined-3.new.out ≡ (with_gaps c.before.before.before.before.before.before.before.args.k (with_ultimates c.before.before.before.before.before.before.before.args.k (with_remaining c.before.before.before.before.before.before.before.args.k c.before.before.before.before.before.before.before.args.out.now)))
unfolding with_gaps starts_of section_start total
third-is c =
    let s = c.before.before.before.before.before.before.before in
    rw (at-is s, second_is c.before.before.before, c.before.cells_of.ensures.0) at c.put_combined-3.ensures

fourth-is : (c : tie.After-put_combined-4) → c.put_combined-4.new.out ≡ (with_differences c.before.before.before.before.before.before.before.before.before.args.k (with_gaps c.before.before.before.before.before.before.before.before.before.args.k (with_ultimates c.before.before.before.before.before.before.before.before.before.args.k (with_remaining c.before.before.before.before.before.before.before.before.before.args.k c.before.before.before.before.before.before.before.before.before.args.out.now))))
unfolding with_differences starts_of section_start total
fourth-is c =
    let s = c.before.before.before.before.before.before.before.before.before in
    rw (at-is s, third-is c.before.before) at c.put_combined-4.ensures

put-combined-requires : tie.Need-put_combined-requires
unfolding starts_of
put-combined-requires c κs =
    let s = c.before in
    let n = where-all s in
    let q = known s.args.k in
    rw (at-is s)
    (omega arith, (omega arith, (omega arith, (sized_part most_worked most_figure (added_at s.args.k).remaining (added_at s.args.k).ladder (s.args.k + 1) s.args.out.now (omega arith) (omega arith) s.requires.1.1.1.entries, sized_part most_worked most_figure (added_at s.args.k).remaining (added_at s.args.k).paid (s.args.k + 1) s.args.out.now (omega arith) (omega arith) s.requires.1.1.1.entries))))

put-combined-requires-2 : tie.Need-put_combined-requires-2
unfolding starts_of
put-combined-requires-2 c κs =
    let s = c.before.before.before in
    let n = where-all s in
    let q = known s.args.k in
    rw (at-is s, starts-are s, first-is c.before)
    (omega arith, (omega arith, (omega arith, (sized_part most_worked most_figure (added_at s.args.k).remaining (added_at s.args.k).paid (s.args.k + 1) (with_remaining s.args.k s.args.out.now) (omega arith) (omega arith) (first s.args.k s.args.out.now s.requires.0 s.requires.1.1.1.long s.requires.1.1.1.entries), sized_part most_worked most_figure (added_at s.args.k).remaining (section_start s.args.k provision_section) (s.args.k + 1) (with_remaining s.args.k s.args.out.now) (omega arith) (omega arith) (first s.args.k s.args.out.now s.requires.0 s.requires.1.1.1.long s.requires.1.1.1.entries)))))

put-combined-requires-3 : tie.Need-put_combined-requires-3
unfolding starts_of
put-combined-requires-3 c κs =
    let s = c.before.before.before.before.before.before in
    let n = where-all s in
    let q = known s.args.k in
    rw (at-is s, second_is c.before.before, c.cells_of.ensures.0)
    (omega arith, (omega arith, (omega arith, (sized_part most_worked most_figure (added_at s.args.k).remaining 0 (cells s.args.k) (with_ultimates s.args.k (with_remaining s.args.k s.args.out.now)) (omega arith) (omega arith) (second s.args.k s.args.out.now s.requires.0 s.requires.1.1.1.long s.requires.1.1.1.entries), sized_part most_worked most_figure (added_at s.args.k).remaining (added_at s.args.k).fitted (cells s.args.k) (with_ultimates s.args.k (with_remaining s.args.k s.args.out.now)) (omega arith) (omega arith) (second s.args.k s.args.out.now s.requires.0 s.requires.1.1.1.long s.requires.1.1.1.entries)))))

put-combined-requires-4 : tie.Need-put_combined-requires-4
unfolding starts_of
put-combined-requires-4 c κs =
    let s = c.before.before.before.before.before.before.before.before in
    let n = where-all s in
    let q = known s.args.k in
    rw (at-is s, third-is c.before)
    (omega arith, (omega arith, (omega arith, (third s.args.k s.args.out.now s.requires.0 s.requires.1.1.1.long s.requires.1.1.1.entries (added_at s.args.k).ultimates (s.args.k + 1) (omega arith), third s.args.k s.args.out.now s.requires.0 s.requires.1.1.1.long s.requires.1.1.1.entries (added_at s.args.k).ladder (s.args.k + 1) (omega arith)))))

put-row-sums-requires : tie.Need-put_row_sums-requires
unfolding starts_of
put-row-sums-requires c κs =
    let s = c.before.before.before.before.before.before.before.before.before.before in
    let n = where-all s in
    let q = known s.args.k in
    rw (at-is s, fourth-is c.before)
    (s.requires.0, (omega arith, (omega arith, fourth s.args.k s.args.out.now s.requires.0 s.requires.1.1.1.long s.requires.1.1.1.entries (added_at s.args.k).gaps (cells s.args.k) (omega arith))))

returns : tie.Need-returns
unfolding combined_figures with_gap_sums
returns c =
    let s = c.before.before.before.before.before.before.before.before.before.before.before in
    rw (at-is s, fourth-is c.before.before) at c.put_row_sums.ensures

pub combine_spec : {M : Type 1} → statement M
combine_spec =
    tie.close
    (tie.spec
    (λ c. omega arith)
    put-combined-requires
    put-combined-requires-2
    (λ c κs. search rules)
    put-combined-requires-3
    put-combined-requires-4
    put-row-sums-requires
    returns)
