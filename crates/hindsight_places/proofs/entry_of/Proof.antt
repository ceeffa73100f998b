-- The place is in the longest report. Assumes nothing.
use mir.Syntax.{w64}
use mathlib.Core.Path.{ap}
use Prim.Native.Nat.{ℕ, ◌*◌}
use native.Mathlib.Omega.{arith}
use mir.Facts.{to_z-of_z}
use borrow.Author.Rules.{rules, sfits_of}
use Rattle.hindsight_places.specs.Places.{entry_at}
use Rattle.hindsight_places.proofs.entry_of.Statement.{statement}
use Rattle.hindsight_places.proofs.entry_of.Tie as tie

mul-result : tie.Need-overflow_mul-result
mul-result c =
    let a = c.before.args.a in
    record { fits = omega (arith, ap (λ (z : ℕ). a * z) c.setting_count.ensures) }

add-result : tie.Need-overflow_add-result
add-result c =
    let a = c.before.args.a in
    record { fits = omega (arith, ap (λ (z : ℕ). a * z) c.setting_count.ensures) }

mul-result-2 : tie.Need-offset_bounds-list-a
mul-result-2 c =
    let a = c.before.args.a in
    record { fits = omega (arith, ap (λ (z : ℕ). a * z) c.setting_count.ensures) }

element-copy-out-result : tie.Need-bounds-list-a
element-copy-out-result c =
    let a = c.before.args.a in
    omega (arith, ap (λ (z : ℕ). a * z) c.setting_count.ensures)

returns : tie.Need-returns
unfolding entry_at
returns c = rw (← c.before.setting_count.ensures) (to_z-of_z {w = w64} (sfits_of c.result-1.given))

pub entry_of_spec : {M : Type 1} → statement M
entry_of_spec =
    tie.close
    (tie.spec
    (λ c κs. search rules)
    mul-result
    add-result
    mul-result-2
    element-copy-out-result
    returns)
