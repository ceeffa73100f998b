-- By both tests. Assumes nothing.
use borrow.Author.Tests.{le-leb, lt-leb}
use Prim.Native.Nat.{◌*◌}
use Rattle.axis.specs.Axis.{in_decade}
use borrow.Author.Rules.{rules}
use Rattle.axis.proofs.in_decade.Statement.{statement}
use Rattle.axis.proofs.in_decade.Tie as tie

returns : tie.Need-returns-then-largest-s
unfolding in_decade
returns c = rw (le-leb c.before.args.largest (5 * c.before.args.s) c.if-largest-s.true)

returns-2 : tie.Need-returns-then-largest-s-2
unfolding in_decade
returns-2 c = rw (lt-leb c.before.before.args.largest (5 * c.before.before.args.s) c.before.if-largest-s.false, le-leb c.before.before.args.largest (10 * c.before.before.args.s) c.if-largest-s-2.true)

returns-3 : tie.Need-returns-else-largest-s-2
unfolding in_decade
returns-3 c = rw (lt-leb c.before.before.args.largest (5 * c.before.before.args.s) c.before.if-largest-s.false, lt-leb c.before.before.args.largest (10 * c.before.before.args.s) c.if-largest-s-2.false)

pub in_decade_spec : {M : Type 1} → statement M
in_decade_spec =
    tie.close
    (tie.spec
    (λ c. search rules)
    (λ c. search rules)
    (λ c. search rules)
    (λ c. search rules)
    returns
    returns-2
    returns-3)
