-- The loop's invariant: the totals of the first j columns are stored, and the body is as it was (before_kept). Assumes nothing.
use mathlib.Core.Path.{◌≡◌, refl, ap, ◌∙◌}
use mathlib.Core.Bool.{cond}
use mathlib.Core.List.{List}
use Prim.Native.Nat.{ℕ, ◌*◌, ◌-◌, ◌≤◌}
use native.Mathlib.Nat.{mul-le-mul_right}
use native.Mathlib.Omega.{arith}
use mir.Syntax.{w64}
use mir.Val.{to_z, of_z}
use mir.Facts.{to_z-of_z}
use borrow.Author.Rules.{rules, sfits_of}
use lib.IntN.{ℤ, pos}
use lib.ListN.{get_or}
use lib.Seq.{sets}
use Rattle.rules.specs.Lists.{up_to}
use Rattle.laws.proofs.Joined.{sets_more}
use Rattle.table_cells.specs.Cells.{styled, decimals_of}
use Rattle.totals_row.specs.Totals.{has_total, total_value, total_style}
use Rattle.totals_row.proofs.Stores.{before_kept, value_same}
use Rattle.totals_row.proofs.fill_totals.Statement.{statement}
use Rattle.totals_row.proofs.fill_totals.Tie as tie

abbrev invariant-loop : tie.invariant-loop-j
invariant-loop values₀ styles₀ rows columns first end p j₀ values styles j =
    (j ≤ columns) × (values ≡ sets values₀ (rows * columns) (up_to (total_value values₀ columns rows first end) j)) × (styles ≡ sets styles₀ (rows * columns) (up_to (total_style styles₀ first end) j))

abbrev decreases-loop : tie.decreases-loop-j
decreases-loop values₀ styles₀ rows columns first end p j₀ values styles j = columns - j

mul-p : tie.Need-overflow_mul-p invariant-loop decreases-loop
mul-p c = omega (arith, c.requires.0)

loop-holds : tie.Need-loop-j-init invariant-loop decreases-loop
unfolding up_to
loop-holds c = (omega arith, refl, refl)

total-value-requires : tie.Need-total_value-total-requires invariant-loop decreases-loop
total-value-requires c κs =
    let s = c.before.before in
    let a = s.args in
    (omega (arith, s.requires.0), (s.requires.1.1.0, (omega arith, λ p h. rw (c.before.loop-j.invariant.1, before_kept (up_to (total_value a.values.now a.columns a.rows a.first a.end) c.before.loop-j.j) a.values.now (a.rows * a.columns) p (pos 0) h) (s.requires.1.1.1 p h))))

loop-again : tie.Need-loop-j-preserved invariant-loop decreases-loop
unfolding total_style
loop-again c =
    let s = c.before.before.before.before.before.before in
    let a = s.args in
    let j = c.before.before.before.before.before.loop-j.j in
    let n = a.rows * a.columns in
    let f = total_value a.values.now a.columns a.rows a.first a.end in
    let g = total_style a.styles.now a.first a.end in
    let kept : to_z w64 (of_z w64 c.before.before.before.total_value-total.result) ≡ c.before.before.before.total_value-total.result = to_z-of_z {w = w64} (sfits_of c.before.before.before.total_value-total.type_inv) in
    let value : c.before.before.before.total_value-total.result ≡ f j = c.before.before.before.total_value-total.ensures ∙ value_same c.before.before.before.before.before.loop-j.values a.values.now a.columns a.rows a.first a.end j (omega arith) (λ p h. ap (λ (l : List ℤ). get_or l p (pos 0)) c.before.before.before.before.before.loop-j.invariant.1 ∙ before_kept (up_to f j) a.values.now n p (pos 0) h) in
    let first : get_or c.before.before.before.before.before.loop-j.styles j 0 ≡ get_or a.styles.now j 0 = ap (λ (l : List ℕ). get_or l j 0) c.before.before.before.before.before.loop-j.invariant.2 ∙ before_kept (up_to g j) a.styles.now n j 0 (omega (arith, mul-le-mul_right a.columns s.requires.1.0)) in
    let style : c.total_style-style.result ≡ g j = c.total_style-style.ensures ∙ ap (λ (x : ℕ). cond (has_total a.first a.end j) (styled 0 (decimals_of x)) 0) first in (
      omega arith,
      rw (kept, value, c.before.before.before.before.before.loop-j.invariant.1) (sets_more f a.values.now n j),
      rw (style, c.before.before.before.before.before.loop-j.invariant.2) (sets_more g a.styles.now n j),
    )

returns : tie.Need-returns invariant-loop decreases-loop
returns c =
    let e : c.before.loop-j.j ≡ c.before.before.args.columns = omega arith in
    (rw e at c.before.loop-j.invariant.1, rw e at c.before.loop-j.invariant.2)

pub fill_totals_spec : {M : Type 1} → statement M
fill_totals_spec =
    tie.close
    (tie.spec invariant-loop decreases-loop mul-p loop-holds total-value-requires (λ c. search rules) (λ c κs. search rules) (λ c. search rules) (λ c. search rules) (λ c. search rules) (λ c. search rules) (λ c. search rules) (λ c. search rules) (λ c. search rules) loop-again returns)
