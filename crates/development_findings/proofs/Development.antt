-- The finding of question 13 by the column sums v and the paid cumulatives c in the arrays, of figures f that have passed question 6. Assumes nothing.
use Prim.Native.Nat.{ℕ, ◌+◌, ◌*◌, ◌≤◌, ◌<◌}
use native.Mathlib.Omega.{arith}
use mathlib.Core.Path.{◌≡◌, sym, ap₂, ◌∙◌}
use mathlib.Core.Bool.{true, false}
use mathlib.Core.List.{List}
use lib.IntN.{ℤ}
use mir.Syntax.{w64}
use mir.Val.{to_z}
use mir.ValLaws.{to_z_pos}
use Rattle.rules.specs.Lists.{up_to}
use Rattle.rules.specs.Record.{million, Figures}
use Rattle.rules.specs.Triangle.{most_cumulative, cumulatives_pass}
use Rattle.rules.specs.Ladder.{developed, base, development_factor, factor_passes, factors_pass}
use Rattle.rules.specs.Results.{paid_in}
use Rattle.triangle.specs.Columns.{column_sum}
use Rattle.ladder.specs.Columns.{developed_in, base_in, Ladderable}
use Rattle.reasons.specs.Reasons.{first_refused}
use Rattle.reasons.proofs.Counted.{leading_same, counted}
use Rattle.reasons.proofs.Why.{refused_below}
use Rattle.figures_run.proofs.Development.{developed_is, base_is, ladderable, thirteen_is}
use Rattle.finding.specs.Places.{development_year, found}
use Rattle.development_findings.specs.DevelopmentFindings.{development_found, development_finding}

-- as the code holds it: none of the three leaves 64 bits
pub held_found : (a b : ℕ → ℕ) (k h factor : ℕ) → h ≡ first_refused a b k → b h ≤ 16 * most_cumulative → a h ≤ 16 * most_cumulative
    → factor ≡ development_factor (a h) (b h) → factor ≤ million * a h
    → found development_year 0 h (to_z w64 (b h)) (to_z w64 (a h)) (to_z w64 factor) ≡ development_found a b k
unfolding development_found
held_found a b k h factor e lb la is lf =
    rw (to_z_pos w64 (b h) (omega arith), to_z_pos w64 (a h) (omega arith), to_z_pos w64 factor (omega arith), is, sym e)

-- of the same sums the same finding
development_same : (a c b d : ℕ → ℕ) (k : ℕ) → ((h : ℕ) → h < k → a h ≡ c h) → ((h : ℕ) → h < k → b h ≡ d h) → factors_pass k c d ≡ false
    → development_found a b k ≡ development_found c d k
unfolding development_found first_refused
development_same a c b d k e g f =
    let l = refused_below c d k f in
    rw (leading_same (λ h. factor_passes (a h) (b h)) (λ h. factor_passes (c h) (d h)) k (λ h l. ap₂ factor_passes (e h l) (g h l)), e (first_refused c d k) l, g (first_refused c d k) l)

module _ (f : Figures) (no13 : factors_pass f.k (developed f.k f.increments) (base f.k f.increments) ≡ false) (k : ℕ) (v c : List ℕ) (ek : k ≡ f.k) (few : k < 16)
    (ev : v ≡ up_to (column_sum f.k f.increments (f.k + 1)) 16) (ec : c ≡ paid_in f) where
  fewer : f.k < 16
  fewer = rw ek at few

  pub ready : cumulatives_pass f.k f.increments ≡ true → Ladderable k v c × (factors_pass k (developed_in v) (base_in k v c) ≡ false)
  ready six = rw ek (ladderable f fewer v c ev ec six, thirteen_is f fewer v c ev ec ∙ no13)

  pub development_is : development_found (developed_in v) (base_in k v c) k ≡ development_finding f.k f.increments
  unfolding development_finding
  development_is =
      rw ek
      (development_same (developed_in v) (developed f.k f.increments) (base_in f.k v c) (base f.k f.increments) f.k
      (developed_is f fewer v c ev ec) (base_is f fewer v c ev ec) no13)

-- the development year that is found fails
pub development_no : (k : ℕ) (p : List ℤ) → factors_pass k (developed k p) (base k p) ≡ false
    → (factor_passes (developed k p (development_finding k p).column) (base k p (development_finding k p).column) ≡ false) × ((development_finding k p).column < k)
unfolding development_finding development_found first_refused
development_no k p no13 =
    let l = refused_below (developed k p) (base k p) k no13 in
    ((counted (λ h. factor_passes (developed k p h) (base k p h)) k).stop l, l)
