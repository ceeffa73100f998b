-- By the first column, and then the first diagonal, that is below zero. Assumes nothing.
use mir.Syntax.{w64}
use mathlib.Core.Path.{◌≡◌, ap, ◌∙◌}
use native.Mathlib.Omega.{arith}
use lib.IntN.{ℤ, pos}
use lib.ListN.{get_or}
use Prim.Native.Nat.{ℕ, ◌+◌, ◌*◌}
use mir.Facts.{to_z-of_z}
use borrow.Author.Rules.{sfits_of}
use Rattle.rules.specs.Triangle.{sum_to}
use Rattle.laws.proofs.Sums.{sum_to_same}
use Rattle.finding.specs.Places.{nowhere, development_year, payment_year, found}
use Rattle.triangle_findings.proofs.Totals.{column_found, diagonal_found, all_found}
use borrow.Author.Rules.{rules}
use Rattle.triangle_findings.proofs.totals_found.Statement.{statement}
use Rattle.triangle_findings.proofs.totals_found.Tie as tie

add-n : tie.Need-overflow_add-n
add-n c = search rules

first-below-requires : tie.Need-first_below-j-requires
first-below-requires c κs = search rules

mul-t8 : tie.Need-offset_bounds-columns-j
mul-t8 c = search rules

element-copy-out-t11 : tie.Need-bounds-columns-j
element-copy-out-t11 c = search rules

returns : tie.Need-returns-then-j-n
returns c =
    let s = c.before.before.before in
    let j = c.before.before.first_below-j in
    let v : ℕ → ℤ = λ j. get_or s.args.columns.now j (pos 0) in
    let d : ℕ → ℤ = λ h. get_or s.args.diagonals.now h (pos 0) in (
      ap (λ (z : ℤ). found development_year 0 j.result z (pos 0) (pos 0)) (to_z-of_z {w = w64} (sfits_of c.result-1.given))
          ∙ column_found v d (sum_to v (s.args.k + 1)) s.args.k j.result j.ensures c.before.if-j-n.true,
      (omega arith, omega arith),
    )

first-below-requires-2 : tie.Need-first_below-h-requires
first-below-requires-2 c κs = search rules

mul-t12 : tie.Need-offset_bounds-diagonals-h
mul-t12 c = search rules

element-copy-out-t15 : tie.Need-bounds-diagonals-h
element-copy-out-t15 c = search rules

returns-2 : tie.Need-returns-then-h-n
returns-2 c =
    let s = c.before.before.before.before.before in
    let j = c.before.before.before.before.first_below-j in
    let h = c.before.before.first_below-h in
    let v : ℕ → ℤ = λ j. get_or s.args.columns.now j (pos 0) in
    let d : ℕ → ℤ = λ h. get_or s.args.diagonals.now h (pos 0) in (
      ap (λ (z : ℤ). found payment_year h.result 0 z (pos 0) (pos 0)) (to_z-of_z {w = w64} (sfits_of c.result-then-h-n-1.given))
          ∙ diagonal_found v d (sum_to v (s.args.k + 1)) s.args.k j.result h.result j.ensures c.before.before.before.if-j-n.false h.ensures c.before.if-h-n.true,
      (omega arith, omega arith),
    )

sum-along-requires : tie.Need-sum_along-requires
sum-along-requires c κs =
    let s = c.before.before.before.before.before in
    (omega arith, (λ i l. omega (arith, s.requires.1 (0 + i * 1)), (search rules, λ i l. search rules)))

returns-3 : tie.Need-returns
returns-3 c =
    let s = c.before.before.before.before.before.before in
    let j = c.before.before.before.before.before.first_below-j in
    let h = c.before.before.before.first_below-h in
    let v : ℕ → ℤ = λ j. get_or s.args.columns.now j (pos 0) in
    let d : ℕ → ℤ = λ h. get_or s.args.diagonals.now h (pos 0) in
    let sum : c.sum_along.result ≡ sum_to v (s.args.k + 1)
    = c.sum_along.ensures ∙ sum_to_same _ v (s.args.k + 1) (λ i l. let e : 0 + i * 1 ≡ i = omega arith in ap v e) in (
      ap (λ (z : ℤ). found nowhere 0 0 z (pos 0) (pos 0)) (to_z-of_z {w = w64} (sfits_of c.sum_along.type_inv) ∙ sum)
          ∙ all_found v d (sum_to v (s.args.k + 1)) s.args.k j.result h.result j.ensures c.before.before.before.before.if-j-n.false h.ensures c.before.before.if-h-n.false,
      (omega arith, omega arith),
    )

pub totals_found_spec : {M : Type 1} → statement M
totals_found_spec =
    tie.close
    (tie.spec
    add-n
    first-below-requires
    mul-t8
    element-copy-out-t11
    returns
    first-below-requires-2
    mul-t12
    element-copy-out-t15
    returns-2
    sum-along-requires
    returns-3)
