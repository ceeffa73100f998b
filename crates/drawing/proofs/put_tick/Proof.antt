-- A tick stands between the lowest line and the highest, 204 and 24. Assumes nothing.
use native.Mathlib.Omega.{arith}
use native.Mathlib.Nat.{mul-le-mul_left}
use Rattle.composing.proofs.Puts.{put_four}
use Rattle.axis.specs.Axis.{foot_line}
use Rattle.drawing.specs.Drawing.{tick_at}
use borrow.Author.Rules.{rules}
use Rattle.drawing.proofs.put_tick.Statement.{statement}
use Rattle.drawing.proofs.put_tick.Tie as tie

mul-y : tie.Need-overflow_mul-y
mul-y c =
    let s = c.before.before.before in
    record { fits = omega (arith, s.requires.0.0.high, mul-le-mul_left s.args.s.tick s.requires.0.1) }

sub-y : tie.Need-overflow_sub-y
unfolding foot_line
sub-y c =
    let s = c.before.before.before in
    omega (arith, c.before.foot_line.ensures, mul-le-mul_left s.args.s.tick s.requires.0.1)

put-tick-line-requires : tie.Need-put_tick_line-a-requires
unfolding foot_line
put-tick-line-requires c κs =
    let s = c.before.before.before.before in
    omega (arith, c.before.before.foot_line.ensures, s.requires.0.0.high)

put-tick-number-requires : tie.Need-put_tick_number-c-requires
put-tick-number-requires c κs =
    let s = c.before.before.before.before.before.before.before.before.before.before.before.before.before.before in
    ((s.requires.0.0.down_most, omega (arith, s.requires.0.1, s.requires.0.0.up_most, s.requires.0.0.down_most)), s.requires.1)

returns : tie.Need-returns
unfolding tick_at
returns c =
    put_four (rw c.before.before.before.before.before.before.before.before.before.before.before.before.before.before.before.before.before.before.before.before.before.foot_line.ensures at c.before.before.before.before.before.before.before.before.before.before.before.before.before.before.before.before.before.before.put_tick_line-a.ensures) c.before.before.before.before.before.before.before.before.before.before.before.before.put_bytes-b.ensures c.before.before.before.before.before.before.before.before.put_tick_number-c.ensures c.before.before.put_bytes.ensures

pub put_tick_spec : {M : Type 1} → statement M
put_tick_spec =
    tie.close
    (tie.spec
    (λ c κs. search rules)
    mul-y
    sub-y
    put-tick-line-requires
    (λ c κs. search rules)
    put-tick-number-requires
    (λ c κs. search rules)
    (λ c. search rules)
    returns)
