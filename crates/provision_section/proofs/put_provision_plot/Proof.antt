-- The two sections can be plotted (drawn). Assumes nothing.
use Prim.Native.Nat.{◌+◌}
use native.Mathlib.Omega.{arith}
use mathlib.Core.Path.{refl}
use Rattle.listing.specs.Starts.{starts_of}
use Rattle.figure_places.specs.Places.{added_at}
use Rattle.page_figures.proofs.Numbers.{numbers}
use Rattle.column_plot.proofs.Places.{drawn}
use Rattle.provision_section.specs.Provisions.{provision_plot_words, provision_plot}
use borrow.Author.Rules.{rules}
use Rattle.provision_section.proofs.put_provision_plot.Statement.{statement}
use Rattle.provision_section.proofs.put_provision_plot.Tie as tie

put-column-plot-requires : tie.Need-put_column_plot-requires
put-column-plot-requires c κs =
    let s = c.before.before.before.before.before.before in
    let k = s.args.k in
    let xs = s.args.figures.now in
    let here = numbers (added_at k) (starts_of k) k s.requires.0 refl refl in
    rw (c.before.before.before.before.starts_of-s.ensures, c.before.before.before.added_at-a.ensures)
    (omega arith, (drawn k (k + 1) _ xs s.requires.0 s.requires.1.1 (omega arith), drawn k (k + 1) _ xs s.requires.0 s.requires.1.1 (omega arith)))

returns : tie.Need-returns
unfolding provision_plot provision_plot_words
returns c = rw (c.before.before.before.before.before.before.before.starts_of-s.ensures, c.before.before.before.before.before.before.added_at-a.ensures) at c.before.before.put_column_plot.ensures

pub put_provision_plot_spec : {M : Type 1} → statement M
put_provision_plot_spec =
    tie.close
    (tie.spec
    (λ c κs. search rules)
    (λ c κs. search rules)
    (λ c. search rules)
    put-column-plot-requires
    (λ c. search rules)
    returns)
