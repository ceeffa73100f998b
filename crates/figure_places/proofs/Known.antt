-- Where the sections start, in numbers. Assumes nothing.
use Prim.Native.Nat.{ℕ, ◌+◌, ◌*◌}
use native.Mathlib.Omega.{arith}
use mathlib.Core.Path.{◌≡◌}
use Rattle.rules.specs.Record.{cells}
use Rattle.listing.proofs.Counts.{results_count}
use Rattle.figure_places.specs.declared.Added.{Added}
use Rattle.figure_places.specs.Places.{added_from, added_at}

pub record Known (a : Added) (k : ℕ) : Type 0 where
  pub exposures : a.exposures ≡ 3 * cells k + 6 * k + 7
  pub increments : a.increments ≡ 3 * cells k + 6 * k + 7 + 1 * (k + 1)
  pub indices : a.indices ≡ 3 * cells k + 6 * k + 7 + 1 * (k + 1) + 1 * cells k
  pub reporting : a.reporting ≡ 3 * cells k + 6 * k + 7 + 2 * (k + 1) + 1 * cells k
  pub ulae : a.ulae ≡ 3 * cells k + 6 * k + 7 + 3 * (k + 1) + 1 * cells k
  pub cumulatives : a.cumulatives ≡ 3 * cells k + 6 * k + 7 + 4 * (k + 1) + 1 * cells k
  pub paid : a.paid ≡ 3 * cells k + 6 * k + 7 + 4 * (k + 1) + 2 * cells k
  pub running : a.running ≡ 3 * cells k + 6 * k + 7 + 5 * (k + 1) + 2 * cells k
  pub changes : a.changes ≡ 3 * cells k + 6 * k + 7 + 6 * (k + 1) + 2 * cells k
  pub expected : a.expected ≡ 3 * cells k + 6 * k + 7 + 6 * (k + 1) + 2 * cells k + 2 * k
  pub fitted : a.fitted ≡ 3 * cells k + 6 * k + 7 + 7 * (k + 1) + 2 * cells k + 2 * k
  pub allowances : a.allowances ≡ 3 * cells k + 6 * k + 7 + 7 * (k + 1) + 3 * cells k + 2 * k
  pub margins : a.margins ≡ 3 * cells k + 6 * k + 7 + 8 * (k + 1) + 3 * cells k + 2 * k
  pub ladder : a.ladder ≡ 3 * cells k + 6 * k + 7 + 9 * (k + 1) + 3 * cells k + 2 * k
  pub remaining : a.remaining ≡ 3 * cells k + 6 * k + 7 + 10 * (k + 1) + 3 * cells k + 2 * k
  pub ultimates : a.ultimates ≡ 3 * cells k + 6 * k + 7 + 11 * (k + 1) + 3 * cells k + 2 * k
  pub gaps : a.gaps ≡ 3 * cells k + 6 * k + 7 + 12 * (k + 1) + 3 * cells k + 2 * k
  pub differences : a.differences ≡ 3 * cells k + 6 * k + 7 + 12 * (k + 1) + 4 * cells k + 2 * k
  pub sums : a.sums ≡ 3 * cells k + 6 * k + 7 + 13 * (k + 1) + 4 * cells k + 2 * k

added_known : (k : ℕ) → Known (added_at k) k
unfolding added_at added_from
added_known k =
    let r = results_count k in
    record {
      exposures = omega arith;
      increments = omega arith;
      indices = omega arith;
      reporting = omega arith;
      ulae = omega arith;
      cumulatives = omega arith;
      paid = omega arith;
      running = omega arith;
      changes = omega arith;
      expected = omega arith;
      fitted = omega arith;
      allowances = omega arith;
      margins = omega arith;
      ladder = omega arith;
      remaining = omega arith;
      ultimates = omega arith;
      gaps = omega arith;
      differences = omega arith;
      sums = omega arith;
    }

pub places_known : (a : Added) (k : ℕ) → a ≡ added_at k → Known a k
places_known a k e = rw e (added_known k)
