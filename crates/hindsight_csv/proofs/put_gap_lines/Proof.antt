-- The loop's invariant: the gaps of the first m origin years are put. Assumes nothing.
use borrow.Author.Rules.{rules}
use mathlib.Core.Path.{◌≡◌, ◌∙◌}
use Prim.Native.Nat.{◌+◌, ◌-◌, ◌≤◌}
use native.Mathlib.Omega.{arith}
use mir.Syntax.{w64}
use mir.Val.{to_z, of_z}
use mir.Facts.{to_z-of_z}
use borrow.Author.Rules.{rules, sfits_of}
use Rattle.rules.specs.Lists.{up_to, joined}
use Rattle.composing.specs.Text.{Put}
use Rattle.composing.proofs.Puts.{put_first, put_more, put_length}
use Rattle.hindsight_places.specs.Places.{gap_at}
use Rattle.hindsight_csv.specs.Csv.{gap_line}
use Rattle.hindsight_csv.proofs.put_gap_lines.Statement.{statement}
use Rattle.hindsight_csv.proofs.put_gap_lines.Tie as tie

abbrev invariant-loop : tie.invariant-loop-m
invariant-loop out₀ at first list k a h end₀ m₀ out end m = (m ≤ h) × Put out₀ out at end (joined (up_to (λ j. gap_line first list k a h (j + 1)) m))

abbrev decreases-loop : tie.decreases-loop-m
decreases-loop out₀ at first list k a h end₀ m₀ out end m = h - m

loop-holds : tie.Need-loop-m-init invariant-loop decreases-loop
loop-holds c = (omega arith, put_first _ _ _)

gap-of-requires : tie.Need-gap_of-gap-requires invariant-loop decreases-loop
gap-of-requires c κs = let s = c.before.before.before.requires in (s.0, (s.1.0, (omega arith, omega arith)))

loop-again : tie.Need-loop-m-preserved invariant-loop decreases-loop
unfolding gap_line
loop-again c =
    let s = c.before.before.before.before.before.before.before.before.before.before.before.before.args in
    let l = c.before.before.before.before.before.before.before.before.before.before.loop-m in
    let g = c.before.before.before.before.before.before.before.before.gap_of-gap in
    let kept : to_z w64 (of_z w64 g.result) ≡ gap_at s.list.now s.k s.a s.h (l.m + 1) = to_z-of_z {w = w64} (sfits_of g.type_inv) ∙ g.ensures in
    (omega arith, put_more (λ j. gap_line s.first s.list.now s.k s.a s.h (j + 1)) l.m l.invariant.1 (rw kept at c.before.before.put_setting_line-end.ensures))

same_length : tie.Need-shape_of-out invariant-loop decreases-loop
same_length c = put_length c.before.loop-m.invariant.1

returns : tie.Need-returns invariant-loop decreases-loop
returns c =
    let e : c.before.loop-m.m ≡ c.before.before.before.args.h = omega arith in
    rw e at c.before.loop-m.invariant.1

pub put_gap_lines_spec : {M : Type 1} → statement M
put_gap_lines_spec =
    tie.close
    (tie.spec
    invariant-loop
    decreases-loop
    loop-holds
    (λ c. search rules)
    gap-of-requires
    (λ c. search rules)
    (λ c. search rules)
    (λ c. search rules)
    (λ c. search rules)
    (λ c. search rules)
    (λ c κs. search rules)
    (λ c. search rules)
    (λ c. search rules)
    loop-again
    same_length
    returns)
