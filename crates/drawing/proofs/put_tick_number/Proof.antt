-- By the side of zero; the number is far below 2^63. Assumes nothing.
use native.Mathlib.Omega.{arith}
use mir.ValLaws.{to_z_pos}
use mir.Syntax.{w64}
use mathlib.Core.Path.{◌≡◌}
use Prim.Native.Nat.{ℕ, ◌+◌, ◌-◌, ◌*◌, ◌≤◌, ◌<◌, ◌^◌}
use native.Mathlib.Nat.{mul-le-mul}
use borrow.Author.Tests.{lt-ltb, le-ltb}
use Rattle.composing.proofs.Puts.{put_append}
use Rattle.axis.specs.Axis.{most_plotted}
use Rattle.drawing.specs.Drawing.{tick_number}
use borrow.Author.Rules.{rules}
use Rattle.drawing.proofs.put_tick_number.Statement.{statement}
use Rattle.drawing.proofs.put_tick_number.Tie as tie

-- up to ten steps
few : (n q : ℕ) → n ≤ 10 → q ≤ 5 * most_plotted → n * q < 2 ^ 63
few n q h l = omega (arith, mul-le-mul {n₂ = 10} {m₂ = 5 * most_plotted} h l)

mul-put-spaced : tie.Need-overflow_mul-down
mul-put-spaced c = record { fits = omega (arith, few (c.before.before.before.before.before.before.before.args.down - c.before.before.before.before.before.before.before.args.t) c.before.before.before.before.before.before.before.args.q (omega arith) c.before.before.before.before.before.before.before.requires.1) }

cast-put-spaced : tie.Need-overflow_cast-down
cast-put-spaced c = record { sfits = few (c.before.before.before.before.before.before.before.args.down - c.before.before.before.before.before.before.before.args.t) c.before.before.before.before.before.before.before.args.q (omega arith) c.before.before.before.before.before.before.before.requires.1 }

mul-put-spaced-2 : tie.Need-overflow_mul-t
mul-put-spaced-2 c = record { fits = omega (arith, few (c.before.before.before.args.t - c.before.before.before.args.down) c.before.before.before.args.q (omega arith) c.before.before.before.requires.1) }

cast-put-spaced-2 : tie.Need-overflow_cast-t
cast-put-spaced-2 c = record { sfits = few (c.before.before.before.args.t - c.before.before.before.args.down) c.before.before.before.args.q (omega arith) c.before.before.before.requires.1 }

returns : tie.Need-returns-then-t-down
unfolding tick_number
returns c =
    let s = c.before.before.before.before.before.before.before.before.before.before in
    let n = s.args.down - s.args.t in
    let e : n ≡ s.args.t - s.args.down + n = omega arith in
    let kept = to_z_pos w64 (n * s.args.q) (few n s.args.q (omega arith) s.requires.1) in
    rw (lt-ltb s.args.t s.args.down c.before.before.before.before.before.before.before.before.if-t-down.true, ← e) (put_append c.before.before.before.before.before.before.put_byte-end.ensures (rw kept at c.before.before.put_spaced.ensures))

returns-2 : tie.Need-returns-else-t-down
unfolding tick_number
returns-2 c =
    let s = c.before.before.before.before.before.before in
    let n = s.args.t - s.args.down in
    let e : n ≡ n + (s.args.down - s.args.t) = omega arith in
    let kept = to_z_pos w64 (n * s.args.q) (few n s.args.q (omega arith) s.requires.1) in
    rw (le-ltb s.args.t s.args.down c.before.before.before.before.if-t-down.false, ← e) (rw kept at c.before.before.put_spaced-else-t-down.ensures)

pub put_tick_number_spec : {M : Type 1} → statement M
put_tick_number_spec =
    tie.close
    (tie.spec
    (λ c κs. search rules)
    (λ c. search rules)
    mul-put-spaced
    cast-put-spaced
    (λ c κs. search rules)
    mul-put-spaced-2
    cast-put-spaced-2
    (λ c κs. search rules)
    (λ c. search rules)
    returns
    (λ c. search rules)
    returns-2)
