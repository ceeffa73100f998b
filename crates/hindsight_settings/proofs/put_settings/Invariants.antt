use mathlib.Core.Path.{◌≡◌}
use lib.Seq.{sets}
use Rattle.rules.specs.Lists.{up_to, joined}
use Rattle.hindsight_settings.proofs.Counts.{entries, sum_at}
use Rattle.hindsight_settings.proofs.put_settings.Given as goal

abbrev pub invariant-loop-a : goal.invariant-loop-a
invariant-loop-a l = record {
  listed : l.out ≡ sets l.fn.out 0 (joined (up_to (entries l.k l.exposures l.increments l.settings) l.a));
  summed : l.sums ≡ sets l.fn.sums 0 (up_to (sum_at l.k l.exposures l.increments l.settings) l.a);
}
