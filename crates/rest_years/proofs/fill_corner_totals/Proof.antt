-- The loop's invariant: `t` is T of year m, and T of the years before it is stored. Assumes nothing.
use mathlib.Core.Path.{◌≡◌, refl, ap, ap₂, ◌∙◌}
use mathlib.Core.List.{List}
use native.Mathlib.Omega.{arith}
use Prim.Native.Nat.{ℕ, ◌+◌, ◌-◌, ◌≤◌}
use lib.IntN.{ℤ, pos, ◌+ℤ◌, ◌-ℤ◌}
use lib.ListN.{get_or, set}
use lib.Seq.{sets}
use mir.Syntax.{w64}
use mir.Val.{of_z}
use Rattle.rules.specs.Lists.{up_to}
use Rattle.laws.proofs.Joined.{first_more}
use Rattle.triangle_findings.specs.TriangleFindings.{corner_by}
use Rattle.triangle_findings.proofs.Rests.{corner_start, corner_next, corner_size, corner_held, total_held}
use Rattle.rest_years.proofs.fill_corner_totals.Statement.{statement}
use Rattle.rest_years.proofs.fill_corner_totals.Tie as tie

abbrev corner : List ℤ → List ℤ → ℕ → ℤ
corner v d = corner_by (λ j. get_or v j (pos 0)) (λ h. get_or d h (pos 0))

abbrev invariant-loop : tie.invariant-loop-m
invariant-loop columns diagonals corners₀ t₀ m₀ corners t m =
    (m ≤ 15) × ((t ≡ of_z w64 (corner columns diagonals m)) × (corners ≡ sets corners₀ 0 (up_to (corner columns diagonals) m)))

abbrev decreases-loop : tie.decreases-loop-m
decreases-loop columns diagonals corners₀ t₀ m₀ corners t m = 15 - m

loop-holds : tie.Need-loop-m-init invariant-loop decreases-loop
unfolding up_to
loop-holds c =
    let s = c.before.args in
    (omega arith, (ap (of_z w64) (corner_start (λ j. get_or s.columns.now j (pos 0)) (λ h. get_or s.diagonals.now h (pos 0))), refl))

next-corner-requires : tie.Need-next_corner-t-requires invariant-loop decreases-loop
next-corner-requires c κs =
    let l = c.before.before.before.loop-m in
    let s = c.before.before.before.before.before in
    let v = s.args.columns.now in
    let d = s.args.diagonals.now in
    let a = s.requires.0 in
    let b = s.requires.1 in
    rw (corner_held v d a b l.m l.t-bits (omega arith) l.invariant.1.0, total_held d b l.m, total_held v a (l.m + 1))
    (corner_size (λ j. get_or v j (pos 0)) (λ h. get_or d h (pos 0)) a b l.m (omega arith), (omega (arith, b l.m), omega (arith, a (l.m + 1))))

-- T of year m as it is stored
stored : (v d l : List ℤ) (m : ℕ) (xs : List ℤ) (x : ℤ) → xs ≡ sets l 0 (up_to (corner v d) m) → x ≡ corner v d m → set xs m x ≡ sets l 0 (up_to (corner v d) (m + 1))
stored v d l m xs x e f = rw (e, f) (first_more (corner v d) l m)

loop-again : tie.Need-loop-m-preserved invariant-loop decreases-loop
loop-again c =
    let l = c.before.before.before.before.loop-m in
    let s = c.before.before.before.before.before.before in
    let v = s.args.columns.now in
    let d = s.args.diagonals.now in
    let a = s.requires.0 in
    let b = s.requires.1 in
    let t = corner_held v d a b l.m l.t-bits (omega arith) l.invariant.1.0 in
    let next = c.next_corner-t.ensures
    ∙ ap₂ (λ (x y : ℤ). x +ℤ y) (ap₂ (λ (x y : ℤ). x -ℤ y) t (total_held d b l.m)) (total_held v a (l.m + 1))
    ∙ corner_next (λ j. get_or v j (pos 0)) (λ h. get_or d h (pos 0)) l.m in
    (omega arith, (ap (of_z w64) next, stored v d _ l.m _ _ l.invariant.1.1 t))

returns : tie.Need-returns invariant-loop decreases-loop
returns c =
    let l = c.before.loop-m in
    let s = c.before.before.before in
    let v = s.args.columns.now in
    let d = s.args.diagonals.now in
    let e : l.m ≡ 15 = omega arith in
    stored v d _ 15 _ _ (rw e at l.invariant.1.1) (corner_held v d s.requires.0 s.requires.1 15 l.t-bits (omega arith) (rw e at l.invariant.1.0))

pub fill_corner_totals_spec : {M : Type 1} → statement M
fill_corner_totals_spec =
    tie.close
    (tie.spec
    invariant-loop
    decreases-loop
    (λ c. omega arith)
    loop-holds
    (λ c. omega arith)
    (λ c. omega arith)
    (λ c. omega arith)
    (λ c. omega arith)
    (λ c. omega arith)
    (λ c. omega arith)
    (λ c. omega arith)
    next-corner-requires
    (λ c. omega arith)
    (λ c. omega arith)
    loop-again
    (λ c. omega arith)
    returns)
