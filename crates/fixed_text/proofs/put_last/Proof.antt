-- The loop's invariant: the first i of the digits are put (put_last_more). Assumes nothing.
use borrow.Author.Rules.{rules}
use native.Mathlib.Omega.{arith}
use mathlib.Core.Path.{◌≡◌}
use Prim.Native.Nat.{◌-◌, ◌≤◌}
use Rattle.rules.specs.Lists.{up_to}
use Rattle.composing.specs.Text.{Put}
use Rattle.composing.proofs.Puts.{put_length}
use Rattle.composing.proofs.Decimals.{digit_at, put_last_first, put_last_more, put_last_all}
use Rattle.fixed_text.proofs.put_last.Statement.{statement}
use Rattle.fixed_text.proofs.put_last.Tie as tie

abbrev invariant-loop : tie.invariant-loop-i
invariant-loop out₀ at m n end₀ i₀ out end i = (i ≤ m) × Put out₀ out at end (up_to (digit_at m n) i)

abbrev decreases-loop : tie.decreases-loop-i
decreases-loop out₀ at m n end₀ i₀ out end i = m - i

loop-holds : tie.Need-loop-i-init invariant-loop decreases-loop
loop-holds c = (omega arith, put_last_first _ _ _ _)

add-shortened : tie.Need-overflow_add-i invariant-loop decreases-loop
add-shortened c = search rules

sub-shortened : tie.Need-overflow_sub-m invariant-loop decreases-loop
sub-shortened c = omega arith

shortened-requires : tie.Need-shortened-front-requires invariant-loop decreases-loop
shortened-requires c κs = search rules

digit-of-requires : tie.Need-digit_of-requires invariant-loop decreases-loop
digit-of-requires c κs = omega arith

put-byte-requires : tie.Need-put_byte-end-requires invariant-loop decreases-loop
put-byte-requires c κs = search rules

add-i : tie.Need-overflow_step-i invariant-loop decreases-loop
add-i c = search rules

loop-less : tie.Need-loop-i-smaller invariant-loop decreases-loop
loop-less c = omega arith

loop-again : tie.Need-loop-i-preserved invariant-loop decreases-loop
loop-again c =
    let l = c.before.before.before.before.before.before.before.loop-i in
    let s = c.before.before.before.before.before.before.before.before.before in
    (omega arith, put_last_more s.args.m s.args.n l.i l.invariant.1 c.before.before.before.before.before.shortened-front.ensures c.before.before.before.digit_of.ensures c.before.before.put_byte-end.ensures)

same_length : tie.Need-shape_of-out invariant-loop decreases-loop
same_length c = put_length c.before.loop-i.invariant.1

returns : tie.Need-returns invariant-loop decreases-loop
returns c =
    let s = c.before.before.before in
    let e : c.before.loop-i.i ≡ s.args.m = omega arith in
    put_last_all s.args.m s.args.n (rw e at c.before.loop-i.invariant.1)

pub put_last_spec : {M : Type 1} → statement M
put_last_spec =
    tie.close
    (tie.spec
    invariant-loop
    decreases-loop
    loop-holds
    add-shortened
    sub-shortened
    shortened-requires
    digit-of-requires
    put-byte-requires
    add-i
    loop-less
    loop-again
    same_length
    returns)
