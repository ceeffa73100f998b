use mathlib.Core.Path.{◌≡◌}
use Prim.Native.Nat.{◌+◌, ◌*◌, ◌^◌, ◌≤◌, ◌<◌}
use lib.ListN.{take, drop}
use Rattle.rules.specs.Packing.{number_of}
use Rattle.packing.proofs.put.Given as goal

abbrev pub invariant-loop-count : goal.invariant-loop-count
invariant-loop-count l = record {
  packed : number_of (take l.at l.buffer) * 2 ^ l.count + l.bits ≡ number_of (take l.initial.at l.fn.buffer) * 2 ^ l.initial.count + l.initial.bits;
  small : l.bits < 2 ^ l.count;
  place : 8 * l.at + l.count ≡ 8 * l.initial.at + l.initial.count;
  fewer : l.count ≤ l.initial.count;
  after : drop l.at l.buffer ≡ drop l.at l.fn.buffer;
}

abbrev pub decreases-loop-count : goal.decreases-loop-count
decreases-loop-count l = l.count
