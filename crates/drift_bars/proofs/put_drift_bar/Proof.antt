-- A bar, or nothing of a refused position. Assumes nothing.
use mathlib.Core.Path.{◌≡◌, sym, ◌∙◌}
use native.Mathlib.Omega.{arith}
use mir.Syntax.{w64}
use mir.Val.{to_z, of_z}
use mir.Facts.{to_z-of_z}
use borrow.Author.Rules.{rules, sfits_of}
use Rattle.composing.proofs.Puts.{put_none}
use Rattle.drift_scale.specs.Scales.{share_at}
use Rattle.drift_scale.proofs.Largest.{share_most}
use Rattle.drift_bars.specs.Bars.{drift_bar}
use Rattle.drift_bars.proofs.put_drift_bar.Statement.{statement}
use Rattle.drift_bars.proofs.put_drift_bar.Tie as tie

put-bar-requires : tie.Need-put_bar-requires
put-bar-requires c κs =
    let s = c.before.before.before.before.before in
    let drawn = s.requires in
    let a = s.args in
    let kept : to_z w64 (of_z w64 c.share_at.result) ≡ share_at a.list.now a.width a.j a.a = to_z-of_z {w = w64} (sfits_of c.share_at.type_inv) ∙ c.share_at.ensures in
    rw kept (drawn.scale_sound, (omega (arith, share_most a.list.now a.width a.j drawn.small a.a), drawn.reached))

returns : tie.Need-returns-then-is_refused
unfolding drift_bar
returns c = rw (sym c.before.is_refused.ensures ∙ c.if-is_refused.true) (put_none _ _)

returns-2 : tie.Need-returns-else-is_refused
unfolding drift_bar
returns-2 c =
    let s = c.before.before.before.before.before.before.before.before in
    let a = s.args in
    let kept : to_z w64 (of_z w64 c.before.before.before.share_at.result) ≡ share_at a.list.now a.width a.j a.a = to_z-of_z {w = w64} (sfits_of c.before.before.before.share_at.type_inv) ∙ c.before.before.before.share_at.ensures in
    rw (sym c.before.before.before.before.before.before.is_refused.ensures ∙ c.before.before.before.before.before.if-is_refused.false) (rw kept at c.before.before.put_bar.ensures)

pub put_drift_bar_spec : {M : Type 1} → statement M
put_drift_bar_spec =
    tie.close
    (tie.spec
    (λ c κs. search rules)
    (λ c. search rules)
    (λ c. search rules)
    (λ c. search rules)
    (λ c κs. search rules)
    put-bar-requires
    returns
    (λ c. search rules)
    returns-2)
