-- At most sixteen numbers, each up to the most of an ultimate. Assumes nothing.
use borrow.Author.Rules.{rules}
use Prim.Native.Nat.{◌<◌, ◌^◌}
use lib.ListN.{take}
use Rattle.std.specs.List.{sum}
use Rattle.entries.proofs.Runs.{sum_fits}
use Rattle.entries.proofs.sum_of.Goals as goal

pub sum-requires-clause-fits : goal.sum-requires-clause-fits
sum-requires-clause-fits c =
    let fits : sum (take c.args.n c.args.vs.now) < 2 ^ 64 = sum_fits c.args.n c.args.vs.now c.requires.0 c.requires.1.0 c.requires.1.1 in
    search rules
