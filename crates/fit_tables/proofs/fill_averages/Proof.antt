-- The triangle with its styles (shaded). Assumes nothing.
use Prim.Native.Nat.{◌+◌}
use native.Mathlib.Omega.{arith}
use mathlib.Core.Path.{refl}
use Rattle.listing.specs.Starts.{starts_of}
use Rattle.listing.proofs.Known.{known}
use Rattle.figure_places.specs.Places.{added_at}
use Rattle.page_figures.proofs.Numbers.{numbers}
use Rattle.shading.specs.Shading.{average_style}
use Rattle.triangle_tables.proofs.Rooms.{rows_room}
use Rattle.fit_tables.specs.Fit.{average_grid}
use Rattle.fit_tables.proofs.Shaded.{shaded}
use borrow.Author.Rules.{rules}
use Rattle.fit_tables.proofs.fill_averages.Statement.{statement}
use Rattle.fit_tables.proofs.fill_averages.Tie as tie

place-past-requires : tie.Need-place_past-requires
place-past-requires c κs =
    let s = c.before.before.before.before in
    let n = numbers (added_at s.args.k) (starts_of s.args.k) s.args.k s.requires.0 refl refl in
    (s.requires.0, (omega arith, (omega arith, rows_room s.args.k (s.args.k + 1) s.requires.0 (omega arith))))

returns : tie.Need-returns
unfolding average_grid
returns c =
    let a = c.before.before.before.before in
    let s = a.before in
    rw (known s.args.k).averages (shaded (average_style s.args.k s.args.figures.now) (s.args.k + 1) 0 s.args.k s.args.figures.now a.average_styles-kinds.ensures s.requires.1.1 c.place_past.ensures)

pub fill_averages_spec : {M : Type 1} → statement M
fill_averages_spec = tie.close (tie.spec (λ c κs. search rules) (λ c. search rules) place-past-requires returns)
