-- Question 29 by its parts, and what is known of settings of which it says yes. Assumes nothing.
use Prim.Native.Nat.{ℕ, ◌≤◌}
use native.Mathlib.Omega.{arith}
use borrow.Author.Tests.{leb-true}
use mathlib.Core.Path.{◌≡◌, ap}
use mathlib.Core.Bool.{true, ◌&&◌}
use mathlib.Core.List.{List}
use lib.Dec.{leb}
use lib.IntN.{pos}
use lib.ListN.{length, get_or, take}
use lib.Seq.{take_all}
use Rattle.rules.specs.Lists.{every, between}
use Rattle.rules.specs.Record.{most_index, index, in_range}
use Rattle.rules.specs.Hindsight.{most_settings, settings_pass}
use Rattle.laws.proofs.Lists.{both_left, both_right, at_most}

-- the range of an index is from 1 to 5,000,000
pub ranges : (settings : List ℕ) → every (between 1 most_index) (take (length settings) settings) ≡ every (λ e. in_range index (pos e)) settings
unfolding in_range
ranges settings = ap (every (between 1 most_index)) (take_all (length settings) settings (omega arith))

-- 1 to 8 settings, none above the most of an index, and k at least 2
pub record Settings (k : ℕ) (settings : List ℕ) : Type 0 where
  pub some : 1 ≤ length settings
  pub few : length settings ≤ most_settings
  pub indices : (i : ℕ) → get_or settings i 0 ≤ most_index
  pub years : 2 ≤ k

pub settings_known : (k : ℕ) (settings : List ℕ) → settings_pass k settings ≡ true → Settings k settings
unfolding settings_pass in_range
settings_known k settings h =
    let counted = between 1 most_settings (length settings) in
    let ranged = every (between 1 most_index) settings in
    let count = both_left counted (ranged && leb 2 k) h in
    let rest = both_right counted (ranged && leb 2 k) h in
    record {
      some = leb-true 1 (length settings) (both_left (leb 1 (length settings)) (leb (length settings) most_settings) count);
      few = leb-true (length settings) most_settings (both_right (leb 1 (length settings)) (leb (length settings) most_settings) count);
      indices = at_most 1 most_index settings (both_left ranged (leb 2 k) rest);
      years = leb-true 2 k (both_right ranged (leb 2 k) rest);
    }
