-- The year of which question 8 says no ends the loop (rest_stop); it says no of one (no_both). Assumes nothing.
use mathlib.Core.Path.{◌≡◌, refl, ap₂, ◌∙◌}
use mathlib.Core.Bool.{Bool, true, false}
use mathlib.Core.List.{List}
use native.Mathlib.Omega.{arith}
use Prim.Native.Nat.{ℕ, ◌+◌}
use lib.IntN.{ℤ, pos, ◌+ℤ◌, ◌-ℤ◌}
use lib.ListN.{get_or}
use mir.Syntax.{w64}
use mir.Facts.{to_z-of_z}
use borrow.Author.Rules.{rules}
use Rattle.rules.specs.Lists.{up_to, every}
use Rattle.laws.proofs.Lists.{every_next}
use Rattle.laws.proofs.Order.{less_yes, less_no}
use Rattle.laws.proofs.Signed.{held}
use Rattle.reasons.proofs.Counted.{no_both}
use Rattle.triangle_findings.specs.TriangleFindings.{rest_passes_of, corner_by}
use Rattle.triangle_findings.proofs.Rests.{corner_start, corner_next, corner_size, total_held, rest_stop}
use Rattle.triangle_findings.proofs.rest_found.Goals as goal
use Rattle.triangle_findings.proofs.rest_found.Goals.{After-next_corner-t, After-subtract-rest}

-- T of a year, and question 8 of the year after m
abbrev corner : List ℤ → List ℤ → ℕ → ℤ
corner v d = corner_by (λ j. get_or v j (pos 0)) (λ h. get_or d h (pos 0))

abbrev passes : List ℤ → List ℤ → ℕ → Bool
passes v d m = rest_passes_of (corner v d) (λ j. get_or v j (pos 0)) (m + 1)

pub loop-m-init : goal.loop-m-init
unfolding up_to every
loop-m-init c =
    (omega arith, (rw (total_held c.args.columns.now c.requires.1.0 0) (corner_start (λ j. get_or c.args.columns.now j (pos 0)) (λ h. get_or c.args.diagonals.now h (pos 0))), refl))

pub next_corner-t-requires : goal.next_corner-t-requires
next_corner-t-requires c =
    let v = c.args.columns.now in
    let d = c.args.diagonals.now in
    let a = c.requires.1.0 in
    let b = c.requires.1.1.0 in
    let m = c.loop-m.m in
    rw (c.loop-m.invariant.1.0, total_held d b m, total_held v a (m + 1))
    (corner_size (λ j. get_or v j (pos 0)) (λ h. get_or d h (pos 0)) a b m (omega arith), (omega (arith, b m), omega (arith, a (m + 1))))

-- the T of the year after m, and what it leaves above its column
next-is : (c : After-next_corner-t) → c.next_corner-t.result ≡ corner c.args.columns.now c.args.diagonals.now (c.loop-m.m + 1)
next-is c =
    let v = c.args.columns.now in
    let d = c.args.diagonals.now in
    c.next_corner-t.ensures
    ∙ ap₂ (λ (x y : ℤ). x +ℤ y) (ap₂ (λ (x y : ℤ). x -ℤ y) c.loop-m.invariant.1.0 (total_held d c.requires.1.1.0 c.loop-m.m)) (total_held v c.requires.1.0 (c.loop-m.m + 1))
    ∙ corner_next (λ j. get_or v j (pos 0)) (λ h. get_or d h (pos 0)) c.loop-m.m

next-held : (c : After-next_corner-t) → held c.next_corner-t.result ≡ corner c.args.columns.now c.args.diagonals.now (c.loop-m.m + 1)
next-held c = to_z-of_z {w = w64} (search rules) ∙ next-is c

pub subtract-rest-requires : goal.subtract-rest-requires
subtract-rest-requires c =
    let v = c.args.columns.now in
    let d = c.args.diagonals.now in
    let a = c.requires.1.0 in
    let b = c.requires.1.1.0 in
    let m = c.loop-m.m in
    rw (next-held (goal.at.subtract-rest-requires c).After-next_corner-t, total_held v a (m + 1))
    (omega (arith, corner_size (λ j. get_or v j (pos 0)) (λ h. get_or d h (pos 0)) a b (m + 1) (omega arith)), omega (arith, a (m + 1)))

rest-held : (c : After-subtract-rest) (next : held c.next_corner-t.result ≡ corner c.args.columns.now c.args.diagonals.now (c.loop-m.m + 1))
    → held c.subtract-rest.result ≡ corner c.args.columns.now c.args.diagonals.now (c.loop-m.m + 1) -ℤ get_or c.args.columns.now (c.loop-m.m + 1) (pos 0)
rest-held c next =
    to_z-of_z {w = w64} (search rules) ∙ c.subtract-rest.ensures ∙ ap₂ (λ (x y : ℤ). x -ℤ y) next (total_held c.args.columns.now c.requires.1.0 (c.loop-m.m + 1))

pub returns-then-rest-lt1 : goal.returns-then-rest-lt1
unfolding rest_passes_of
returns-then-rest-lt1 c =
    let v = c.args.columns.now in
    let d = c.args.diagonals.now in
    let m = c.loop-m.m in
    let at = goal.at.returns-then-rest-lt1 c in
    let next = next-held at.After-next_corner-t in
    let rest = rest-held at.After-subtract-rest next in
    let fails : passes v d m ≡ false = less_yes (corner v d (m + 1) -ℤ get_or v (m + 1) (pos 0)) (pos 1) (rw rest at c.if-rest-lt1.true) in (
      rest_stop (corner v d) (λ j. get_or v j (pos 0)) c.args.k m (omega arith) c.loop-m.invariant.1.1 fails _ _ _ next (total_held v c.requires.1.0 (m + 1)) rest,
      (omega arith, omega arith),
    )

pub loop-m-preserved : goal.loop-m-preserved
unfolding rest_passes_of
loop-m-preserved c =
    let v = c.args.columns.now in
    let d = c.args.diagonals.now in
    let m = c.loop-m.m in
    let at = goal.at.loop-m-preserved c in
    let next = next-held at.After-next_corner-t in
    let rest = rest-held at.After-subtract-rest next in
    let passed : passes v d m ≡ true = less_no (corner v d (m + 1) -ℤ get_or v (m + 1) (pos 0)) (pos 1) (rw rest at c.if-rest-lt1.false) in
    (omega arith, (next, every_next (passes v d) (λ i. i) m c.loop-m.invariant.1.1 passed))

pub returns : goal.returns
returns c =
    let e : c.loop-m.m ≡ c.args.k = omega arith in
    absurd (no_both _ (rw e at c.loop-m.invariant.1.1) c.requires.1.1.1)
