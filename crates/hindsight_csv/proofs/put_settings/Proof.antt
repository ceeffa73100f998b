-- The loop's invariant: the first a settings are put. Assumes nothing.
use mathlib.Core.Path.{◌≡◌}
use Prim.Native.Nat.{◌-◌, ◌≤◌}
use native.Mathlib.Omega.{arith}
use Rattle.rules.specs.Lists.{up_to, joined}
use Rattle.composing.specs.Text.{Put}
use Rattle.composing.proofs.Puts.{put_first, put_more, put_length}
use Rattle.hindsight_csv.specs.Csv.{setting_lines}
use Rattle.hindsight_csv.proofs.put_settings.Statement.{statement}
use Rattle.hindsight_csv.proofs.put_settings.Tie as tie

abbrev invariant-loop : tie.invariant-loop-a
invariant-loop out₀ at first list k n end₀ a₀ out end a = (a ≤ n) × Put out₀ out at end (joined (up_to (setting_lines first list k) a))

abbrev decreases-loop : tie.decreases-loop-a
decreases-loop out₀ at first list k n end₀ a₀ out end a = n - a

loop-holds : tie.Need-loop-a-init invariant-loop decreases-loop
loop-holds c = (omega arith, put_first _ _ _)

put-setting-lines-requires : tie.Need-put_setting_lines-end-requires invariant-loop decreases-loop
put-setting-lines-requires c κs =
    let known = c.before.before.before.before.requires in
    (((known.0.k_least, known.0.k_most), omega (arith, known.0.settings_most)), (known.0.first_most, known.1))

loop-again : tie.Need-loop-a-preserved invariant-loop decreases-loop
loop-again c =
    let s = c.before.before.before.before.before.before.before.args in
    let l = c.before.before.before.before.before.loop-a in
    (omega arith, put_more (setting_lines s.first s.list.now s.k) l.a l.invariant.1 c.before.before.put_setting_lines-end.ensures)

same_length : tie.Need-shape_of-out invariant-loop decreases-loop
same_length c = put_length c.before.loop-a.invariant.1

returns : tie.Need-returns invariant-loop decreases-loop
returns c =
    let e : c.before.loop-a.a ≡ c.before.before.before.args.n = omega arith in
    rw e at c.before.loop-a.invariant.1

pub put_settings_spec : {M : Type 1} → statement M
put_settings_spec =
    tie.close
    (tie.spec
    invariant-loop
    decreases-loop
    loop-holds
    put-setting-lines-requires
    (λ c. omega arith)
    (λ c. omega arith)
    loop-again
    same_length
    returns)
