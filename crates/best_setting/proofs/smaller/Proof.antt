-- By cases on the test. Assumes nothing.
use borrow.Author.Rules.{rules}
use borrow.Author.Tests.{lt-ltb, le-ltb}
use mathlib.Core.Path.{◌≡◌}
use mathlib.Core.Bool.{cond}
use Rattle.best_setting.proofs.smaller.Statement.{statement}
use Rattle.best_setting.proofs.smaller.Tie as tie

mul-if1 : tie.Need-offset_bounds-sums-second
mul-if1 c = search rules

shared-slice-read-if1 : tie.Need-bounds-sums-second
shared-slice-read-if1 c = search rules

mul-if1-2 : tie.Need-offset_bounds-sums-first
mul-if1-2 c = search rules

shared-slice-read-if1-2 : tie.Need-bounds-sums-first
shared-slice-read-if1-2 c = search rules

returns : tie.Need-returns-then-sums-second
returns c = rw (lt-ltb _ _ c.if-sums-second.true)

returns-2 : tie.Need-returns-else-sums-second
returns-2 c = rw (le-ltb _ _ c.if-sums-second.false)

pub smaller_spec : {M : Type 1} → statement M
smaller_spec = tie.close (tie.spec mul-if1 shared-slice-read-if1 mul-if1-2 shared-slice-read-if1-2 returns returns-2)
