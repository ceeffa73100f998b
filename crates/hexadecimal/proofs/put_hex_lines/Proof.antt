-- The loop's invariant: the first m lines are put. Assumes nothing.
use native.Mathlib.Omega.{arith}
use mathlib.Core.Path.{◌≡◌, refl}
use Prim.Native.Nat.{◌+◌, ◌-◌, ◌/◌, ◌≤◌}
use lib.ListN.{length}
use Rattle.rules.specs.Lists.{up_to, joined}
use Rattle.composing.specs.Text.{Put}
use Rattle.composing.proofs.Puts.{put_first, put_more, put_length}
use Rattle.hexadecimal.specs.Hexadecimal.{hex_line, hex_lines}
use borrow.Author.Rules.{rules}
use Rattle.hexadecimal.proofs.put_hex_lines.Statement.{statement}
use Rattle.hexadecimal.proofs.put_hex_lines.Tie as tie

abbrev invariant-loop : tie.invariant-loop-m
invariant-loop out₀ at bytes end₀ lines m₀ out end m = (m ≤ lines) × ((lines ≡ (length bytes + 31) / 32) × Put out₀ out at end (joined (up_to (hex_line bytes) m)))

abbrev decreases-loop : tie.decreases-loop-m
decreases-loop out₀ at bytes end₀ lines m₀ out end m = lines - m

loop-holds : tie.Need-loop-m-init invariant-loop decreases-loop
loop-holds c = (omega arith, (refl, put_first _ _ _))

loop-again : tie.Need-loop-m-preserved invariant-loop decreases-loop
loop-again c =
    let l = c.before.before.before.before.before.loop-m in
    (omega arith, (refl, put_more (hex_line c.before.before.before.before.before.before.before.before.args.bytes.now) l.m l.invariant.1.1 c.before.before.put_hex_line-end.ensures))

same_length : tie.Need-shape_of-out invariant-loop decreases-loop
same_length c = put_length c.before.loop-m.invariant.1.1

returns : tie.Need-returns invariant-loop decreases-loop
unfolding hex_lines
returns c =
    let e : c.before.loop-m.m ≡ (length c.before.before.before.before.args.bytes.now + 31) / 32 = omega arith in
    rw e at c.before.loop-m.invariant.1.1

pub put_hex_lines_spec : {M : Type 1} → statement M
put_hex_lines_spec =
    tie.close
    (tie.spec
    invariant-loop
    decreases-loop
    (λ c. omega arith)
    loop-holds
    (λ c κs. search rules)
    (λ c. omega arith)
    (λ c. omega arith)
    loop-again
    same_length
    returns)
