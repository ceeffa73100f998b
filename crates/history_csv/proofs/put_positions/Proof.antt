-- The loop's invariant: the first a positions are put. Assumes nothing.
use mathlib.Core.Path.{◌≡◌}
use Prim.Native.Nat.{◌-◌, ◌≤◌}
use native.Mathlib.Omega.{arith}
use Rattle.rules.specs.Lists.{up_to, joined}
use Rattle.composing.specs.Text.{Put}
use Rattle.composing.proofs.Puts.{put_first, put_more, put_length}
use Rattle.history_csv.specs.Csv.{position_lines}
use Rattle.history_csv.proofs.put_positions.Statement.{statement}
use Rattle.history_csv.proofs.put_positions.Tie as tie

abbrev invariant-loop : tie.invariant-loop-a
invariant-loop out₀ at first n width list end₀ a₀ out end a =
    (a ≤ n) × Put out₀ out at end (joined (up_to (position_lines first list width) a))

abbrev decreases-loop : tie.decreases-loop-a
decreases-loop out₀ at first n width list end₀ a₀ out end a = n - a

loop-holds : tie.Need-loop-a-init invariant-loop decreases-loop
loop-holds c = (omega arith, put_first _ _ _)

put-position-lines-requires : tie.Need-put_position_lines-end-requires invariant-loop decreases-loop
put-position-lines-requires c κs = ((omega (arith, c.before.before.before.before.requires.0), c.before.before.before.before.requires.1.0), c.before.before.before.before.requires.1.1)

loop-again : tie.Need-loop-a-preserved invariant-loop decreases-loop
loop-again c =
    let s = c.before.before.before.before.before.before.before.args in
    let l = c.before.before.before.before.before.loop-a in
    (omega arith, put_more (position_lines s.first s.list.now s.width) l.a l.invariant.1 c.before.before.put_position_lines-end.ensures)

same_length : tie.Need-shape_of-out invariant-loop decreases-loop
same_length c = put_length c.before.loop-a.invariant.1

returns : tie.Need-returns invariant-loop decreases-loop
returns c =
    let e : c.before.loop-a.a ≡ c.before.before.before.args.n = omega arith in
    rw e at c.before.loop-a.invariant.1

pub put_positions_spec : {M : Type 1} → statement M
put_positions_spec =
    tie.close
    (tie.spec
    invariant-loop
    decreases-loop
    loop-holds
    put-position-lines-requires
    (λ c. omega arith)
    (λ c. omega arith)
    loop-again
    same_length
    returns)
