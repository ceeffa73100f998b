-- The loop's invariant: the labels of the years up to m are put. Assumes nothing.
use mathlib.Core.Path.{◌≡◌, sym}
use native.Mathlib.Omega.{arith}
use Prim.Native.Nat.{◌-◌, ◌≤◌}
use Rattle.composing.specs.Text.{Put}
use Rattle.composing.proofs.Puts.{put_none, put_same, put_append, put_length}
use Rattle.rest_years.specs.RestYears.{year_labels}
use Rattle.rest_years.proofs.Years.{no_years, labels_next}
use Rattle.rest_years.proofs.put_labels.Statement.{statement}
use Rattle.rest_years.proofs.put_labels.Tie as tie

abbrev invariant-loop : tie.invariant-loop-m
invariant-loop labels₀ corners columns k at₀ m₀ labels at m = (m ≤ k) × Put labels₀ labels 0 at (year_labels corners columns m)

abbrev decreases-loop : tie.decreases-loop-m
decreases-loop labels₀ corners columns k at₀ m₀ labels at m = k - m

loop-holds : tie.Need-loop-m-init invariant-loop decreases-loop
loop-holds c = (omega arith, put_same (sym (no_years _ _).0) (put_none _ _))

put-label-requires : tie.Need-put_label-at-requires invariant-loop decreases-loop
put-label-requires c κs = let s = c.before.before.before.before in (omega arith, s.requires.1)

loop-again : tie.Need-loop-m-preserved invariant-loop decreases-loop
loop-again c = let l = c.before.before.before.before.before.loop-m in (omega arith, put_same (sym (labels_next _ _ l.m)) (put_append l.invariant.1 c.before.before.put_label-at.ensures))

same_length : tie.Need-shape_of-labels invariant-loop decreases-loop
same_length c = put_length c.before.loop-m.invariant.1

returns : tie.Need-returns invariant-loop decreases-loop
returns c =
    let e : c.before.loop-m.m ≡ c.before.before.before.args.k = omega arith in
    rw e at c.before.loop-m.invariant.1

pub put_labels_spec : {M : Type 1} → statement M
put_labels_spec =
    tie.close
    (tie.spec
    invariant-loop
    decreases-loop
    loop-holds
    (λ c. omega arith)
    put-label-requires
    (λ c. omega arith)
    (λ c. omega arith)
    loop-again
    same_length
    returns)
