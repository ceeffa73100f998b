-- Every step is fitted once (all_fitted), and by these fits the entries of every setting are made. Assumes nothing.
use borrow.Author.Rules.{rules}
use native.Mathlib.Omega.{arith}
use mathlib.Core.Path.{◌≡◌, sym, ap, ◌∙◌}
use mathlib.Core.List.{List}
use Prim.Native.Nat.{ℕ, ◌+◌, ◌-◌, ◌*◌, ◌≤◌}
use lib.IntN.{ℤ, pos}
use lib.ListN.{length, replicate}
use Rattle.rules.specs.Triangle.{averages_of, average_row}
use Rattle.rules.specs.Hindsight.{setting_count, hindsight_count}
use Rattle.laws.proofs.Padded.{filled_length}
use Rattle.triangle.proofs.Square.{cells_bounded}
use Rattle.hindsight_list.proofs.Fits.{cut_whole, all_fitted}
use Rattle.hindsight_list.proofs.fill_settings.Statement.{statement}
use Rattle.hindsight_list.proofs.fill_settings.Tie as tie

-- sixteen rows of averages
rows_long : (k : ℕ) (n : List ℕ) (p : List ℤ) → k + 1 ≤ 16 → length (averages_of k n p) ≡ 16
unfolding averages_of
rows_long k n p h = filled_length 16 (replicate 16 (pos 0)) (average_row k n p) (k + 1) h

-- the report holds the entries of the settings
room : (k c m : ℕ) → hindsight_count k c ≤ m → c * setting_count k ≤ m
unfolding hindsight_count
room k c m h = omega arith

sub-fill-fits : tie.Need-overflow_sub-k
sub-fill-fits c = omega (arith, c.before.before.requires.some)

fill-fits-requires : tie.Need-fill_fits-requires
fill-fits-requires c κs =
    let s = c.before.before.before.before.before.before.before in
    let known = s.requires.given in
    let k = s.args.k in
    let n = s.args.exposures.now in
    let p = s.args.increments.now in
    let long = ap length s.requires.averages ∙ rows_long k n p (omega (arith, known.few)) in
    let small = cells_bounded k n p known.few known.exposures known.increments in
    let last : k - 1 + 1 ≡ k = omega (arith, s.requires.some) in (
      (rw s.requires.averages small, (omega (arith, long, known.few, last), omega (arith, known.few, last))),
      rw (last, s.requires.averages, cut_whole k n p known.few) s.requires.totals,
    )

put-settings-requires : tie.Need-put_settings-requires
put-settings-requires c κs =
    let fits = c.before.before.before.before.before.fill_fits in
    let s = c.before.before.before.before.before.before.before.before.before.before.before.before.before in
    let k = s.args.k in
    let n = s.args.exposures.now in
    let p = s.args.increments.now in
    let same = s.requires.averages in (
      (s.requires.given, (s.requires.some, (s.requires.few, room k (length s.args.settings.now) (length s.args.report.now) s.requires.room))),
      (s.requires.indices, all_fitted k n p s.requires.given.few _ _ _ (rw same at fits.ensures.0) (rw same at fits.ensures.1.0) (rw same at fits.ensures.1.1.0)),
    )

same_length : tie.Need-shape_of-report
same_length c = search rules

returns : tie.Need-returns
returns c =
    let put = c.before.put_settings.ensures in
    (put.0, (put.1, c.before.before.before.before.before.before.before.fill_fits.ensures.1.1.1))

pub fill_settings_spec : {M : Type 1} → statement M
fill_settings_spec = tie.close (tie.spec sub-fill-fits fill-fits-requires put-settings-requires same_length returns)
