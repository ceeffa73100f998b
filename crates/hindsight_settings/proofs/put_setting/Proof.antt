-- The sum stands after the entries of the steps, at the last place of the setting. Assumes nothing.
use borrow.Author.Rules.{rules}
use mathlib.Core.Path.{◌≡◌}
use mathlib.Core.List.{[], ◌∷◌, map}
use Prim.Native.Nat.{◌+◌, ◌-◌}
use native.Mathlib.Omega.{arith}
use lib.IntN.{pos}
use lib.ListN.{length}
use Rattle.rules.specs.Lists.{joined}
use Rattle.rules.specs.Hindsight.{step_entries, step_years, gap_sum, setting_entries, setting_count}
use Rattle.laws.proofs.Joined.{sets_append}
use Rattle.hindsight_settings.proofs.Counts.{steps_are, steps_count}
use Rattle.hindsight_settings.proofs.put_setting.Statement.{statement}
use Rattle.hindsight_settings.proofs.put_setting.Tie as tie

put-steps-requires : tie.Need-put_steps-sum-requires
put-steps-requires c κs = search rules

setting-count-requires : tie.Need-setting_count-requires
setting-count-requires c κs = search rules

-- the steps have one entry less than the setting
count : (s : tie.Start) → length (joined (map (step_entries s.args.k s.args.exposures.now s.args.increments.now s.args.index) (step_years s.args.k))) + 1 ≡ setting_count s.args.k
count s =
    let k = s.args.k in
    let n = s.args.exposures.now in
    let p = s.args.increments.now in
    rw (steps_are k n p s.args.index) (steps_count k n p s.args.index s.requires.0.1.0)

add-last : tie.Need-overflow_add-last
add-last c = search rules

sub-last : tie.Need-overflow_sub-last
sub-last c =
    let s = c.before.before.before.before in
    omega (arith, c.setting_count.ensures.0, count s)

put-natural-requires : tie.Need-put_natural-requires
put-natural-requires c κs =
    let s = c.before.before.before.before.before in
    (omega (arith, c.before.setting_count.ensures.0, count s, s.requires.0.1.1), omega (arith, c.before.before.before.put_steps-sum.ensures.1.0))

same_length : tie.Need-shape_of-out
same_length c = search rules

returns : tie.Need-returns
unfolding setting_entries
returns c =
    let steps = c.before.before.before.before.before.put_steps-sum in
    let size = c.before.before.before.setting_count in
    let s = c.before.before.before.before.before.before.before in
    let k = s.args.k in
    let n = s.args.exposures.now in
    let p = s.args.increments.now in
    let entries = joined (map (step_entries k n p s.args.index) (step_years k)) in (
      steps.ensures.0,
      rw (c.before.put_natural.ensures.1, steps.ensures.1.1, steps.ensures.0)
          (sets_append entries (pos (gap_sum k n p s.args.index) ∷ []) s.args.out.now s.args.at (s.args.at + size.result - 1) (omega (arith, size.ensures.0, count s))),
    )

pub put_setting_spec : {M : Type 1} → statement M
put_setting_spec = tie.close (tie.spec put-steps-requires setting-count-requires add-last sub-last put-natural-requires same_length returns)
