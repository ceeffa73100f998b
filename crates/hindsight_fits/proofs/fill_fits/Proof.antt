-- The loop's invariant: the fits of the first m steps are stored, and the totals are those of the triangle of last year n + 1 − m. Assumes nothing.
use borrow.Author.Rules.{rules}
use mathlib.Core.Path.{◌≡◌, refl, ap}
use mathlib.Core.List.{List}
use Prim.Native.Nat.{ℕ, ◌+◌, ◌-◌, ◌≤◌}
use native.Mathlib.Omega.{arith}
use lib.IntN.{ℤ}
use lib.Seq.{sets}
use Rattle.rules.specs.Lists.{up_to}
use Rattle.laws.proofs.Joined.{first_more}
use Rattle.totals.specs.Squares.{cut_of}
use Rattle.totals.specs.Summed.{Summed}
use Rattle.hindsight_fits.specs.Fits.{fit_mark, fit_level, fit_shares}
use Rattle.hindsight_fits.proofs.fill_fits.Statement.{statement}
use Rattle.hindsight_fits.proofs.fill_fits.Tie as tie

-- the totals of the triangle of last year h
abbrev SummedTo : List (List ℤ) → ℕ → List ℤ → List ℤ → Type 0
SummedTo rows h v d = Summed (cut_of rows 0 h) h v d

again : (rows : List (List ℤ)) (a b : ℕ) (v d : List ℤ) → a ≡ b → SummedTo rows a v d → SummedTo rows b v d
again rows a b v d e s = rw e at s

abbrev invariant-loop : tie.invariant-loop-m
invariant-loop rows n columns₀ diagonals₀ marks₀ levels₀ shares₀ m₀ columns diagonals marks levels shares m =
    (m ≤ n)
    × SummedTo rows (n + 1 - m) columns diagonals
    × (marks ≡ sets marks₀ 0 (up_to (λ c. fit_mark rows (n - c)) m))
    × (levels ≡ sets levels₀ 0 (up_to (λ c. fit_level rows (n - c)) m))
    × (shares ≡ sets shares₀ 0 (up_to (λ c. fit_shares rows (n - c)) m))

abbrev decreases-loop : tie.decreases-loop-m
decreases-loop rows n columns₀ diagonals₀ marks₀ levels₀ shares₀ m₀ columns diagonals marks levels shares m = n - m

loop-holds : tie.Need-loop-m-init invariant-loop decreases-loop
unfolding up_to
loop-holds c = (omega arith, again c.args.rows.now (c.args.n + 1) (c.args.n + 1 - 0) _ _ (omega arith) c.requires.1, refl, refl, refl)

sub-h : tie.Need-overflow_sub-h invariant-loop decreases-loop
sub-h c = search rules

drop-diagonal-requires : tie.Need-drop_diagonal-requires invariant-loop decreases-loop
drop-diagonal-requires c κs =
    let s = c.before.before.before.before in
    let l = c.before.before.before.loop-m in
    ((s.requires.0.0, (omega (arith, s.requires.0.1.0), omega (arith, s.requires.0.1.1))), again s.args.rows.now (s.args.n + 1 - l.m) (s.args.n - l.m + 1) _ _ (omega arith) l.invariant.1)

separate-totals-requires : tie.Need-separate_totals-found-requires invariant-loop decreases-loop
separate-totals-requires c κs = (omega (arith, c.before.before.before.before.before.requires.0.1.1), (_, c.drop_diagonal.ensures))

mul-marks : tie.Need-offset_bounds-marks-m invariant-loop decreases-loop
mul-marks c = omega (arith, c.before.before.before.before.before.before.before.requires.0.1.1)

element-write-marks : tie.Need-bounds-marks-m invariant-loop decreases-loop
element-write-marks c = omega (arith, c.before.before.before.before.before.before.before.before.requires.0.1.1)

mul-levels : tie.Need-offset_bounds-factors-h invariant-loop decreases-loop
mul-levels c = omega (arith, c.before.before.before.before.before.before.before.before.requires.0.1.1)

element-copy-out-levels : tie.Need-bounds-factors-h invariant-loop decreases-loop
element-copy-out-levels c = omega (arith, c.before.before.before.before.before.before.before.before.requires.0.1.1)

mul-levels-2 : tie.Need-offset_bounds-levels-m invariant-loop decreases-loop
mul-levels-2 c = omega (arith, c.before.before.before.before.before.before.before.before.before.requires.0.1.1)

element-write-levels : tie.Need-bounds-levels-m invariant-loop decreases-loop
element-write-levels c = omega (arith, c.before.before.before.before.before.before.before.before.before.before.requires.0.1.1)

mul-t18 : tie.Need-offset_bounds-shares-m invariant-loop decreases-loop
mul-t18 c = omega (arith, c.before.before.before.before.before.before.before.before.before.before.before.requires.0.1.1)

element-set-from-shares : tie.Need-bounds-shares-m invariant-loop decreases-loop
element-set-from-shares c = omega (arith, c.before.before.before.before.before.before.before.before.before.before.before.requires.0.1.1)

add-m : tie.Need-overflow_step-m invariant-loop decreases-loop
add-m c = search rules

loop-less : tie.Need-loop-m-smaller invariant-loop decreases-loop
loop-less c = search rules

loop-again : tie.Need-loop-m-preserved invariant-loop decreases-loop
unfolding fit_mark fit_level fit_shares
loop-again c =
    let s = c.before.before.before.before.before.before.before.before.before.before.before in
    let l = c.before.before.before.before.before.before.before.before.before.before.loop-m in
    let dropped = c.before.before.before.before.before.before.drop_diagonal.ensures in
    let found = c.before.before.before.before.before.separate_totals-found.ensures _ dropped in
    let rows = s.args.rows.now in
    let n = s.args.n in (
      omega arith,
      again rows (n - l.m) (n + 1 - (l.m + 1)) _ _ (omega arith) dropped,
      rw (l.invariant.2, found.0) (first_more (λ d. fit_mark rows (n - d)) s.args.marks.now l.m),
      rw (l.invariant.3, found.1) (first_more (λ d. fit_level rows (n - d)) s.args.levels.now l.m),
      rw (l.invariant.4, found.1) (first_more (λ d. fit_shares rows (n - d)) s.args.shares.now l.m),
    )

returns : tie.Need-returns invariant-loop decreases-loop
returns c =
    let s = c.before.before in
    let e : c.before.loop-m.m ≡ s.args.n = omega arith in
    let inv = c.before.loop-m.invariant in
    (rw e at inv.2, (rw e at inv.3, (rw e at inv.4, again s.args.rows.now (s.args.n + 1 - c.before.loop-m.m) 1 _ _ (omega arith) inv.1)))

pub fill_fits_spec : {M : Type 1} → statement M
fill_fits_spec =
    tie.close
    (tie.spec
    invariant-loop
    decreases-loop
    loop-holds
    sub-h
    drop-diagonal-requires
    separate-totals-requires
    mul-marks
    element-write-marks
    mul-levels
    element-copy-out-levels
    mul-levels-2
    element-write-levels
    mul-t18
    element-set-from-shares
    add-m
    loop-less
    loop-again
    returns)
