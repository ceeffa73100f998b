-- The loop's invariant: the first m steps are put. Assumes nothing.
use mathlib.Core.Path.{◌≡◌}
use Prim.Native.Nat.{◌-◌, ◌≤◌}
use native.Mathlib.Omega.{arith}
use Rattle.rules.specs.Lists.{up_to, joined}
use Rattle.composing.specs.Text.{Put}
use Rattle.composing.proofs.Puts.{put_first, put_more, put_length}
use Rattle.hindsight_csv.specs.Csv.{step_lines}
use Rattle.hindsight_csv.proofs.put_steps.Statement.{statement}
use Rattle.hindsight_csv.proofs.put_steps.Tie as tie

abbrev invariant-loop : tie.invariant-loop-m
invariant-loop out₀ at first list k a end₀ n m₀ out end m = (m ≤ k - 1) × Put out₀ out at end (joined (up_to (λ j. step_lines first list k a (k - 1 - j)) m))

abbrev decreases-loop : tie.decreases-loop-m
decreases-loop out₀ at first list k a end₀ n m₀ out end m = k - 1 - m

loop-holds : tie.Need-loop-m-init invariant-loop decreases-loop
loop-holds c = (omega arith, put_first _ _ _)

put-step-lines-requires : tie.Need-put_step_lines-end-requires invariant-loop decreases-loop
put-step-lines-requires c κs =
    let known = c.before.before.before.before.requires in
    (known.0.1, (((known.0.0, (omega arith, omega arith)), known.1.0), known.1.1))

loop-again : tie.Need-loop-m-preserved invariant-loop decreases-loop
loop-again c =
    let s = c.before.before.before.before.before.before.before.args in
    let l = c.before.before.before.before.before.loop-m in
    (omega arith, put_more (λ j. step_lines s.first s.list.now s.k s.a (s.k - 1 - j)) l.m l.invariant.1 c.before.before.put_step_lines-end.ensures)

same_length : tie.Need-shape_of-out invariant-loop decreases-loop
same_length c = put_length c.before.loop-m.invariant.1

returns : tie.Need-returns invariant-loop decreases-loop
returns c =
    let e : c.before.loop-m.m ≡ c.before.before.before.args.k - 1 = omega arith in
    rw e at c.before.loop-m.invariant.1

pub put_steps_spec : {M : Type 1} → statement M
put_steps_spec =
    tie.close
    (tie.spec
    invariant-loop
    decreases-loop
    (λ c. omega arith)
    loop-holds
    (λ c. omega arith)
    (λ c. omega arith)
    put-step-lines-requires
    (λ c. omega arith)
    (λ c. omega arith)
    loop-again
    same_length
    returns)
