-- A section that was put stands in the array as long as stores are made after it. Assumes nothing.
use Prim.Native.Nat.{ℕ, ◌+◌, ◌≤◌, ◌<◌}
use native.Mathlib.Omega.{arith}
use mathlib.Core.Path.{◌≡◌, refl, sym, ap, ap₂, ◌∙◌}
use mathlib.Core.Bool.{Bool}
use mathlib.Core.List.{List}
use lib.IntN.{ℤ, pos, nat_abs}
use lib.ListN.{length, get_or}
use lib.Seq.{sets, length-sets}
use Rattle.rules.specs.Lists.{up_to}
use Rattle.laws.proofs.Lists.{length_up_to, get_d_up_to}
use Rattle.vectors.specs.Vectors.{figure_at, combined, combined_all}
use Rattle.vectors.proofs.Before.{sets_before, sets_at}
use Rattle.allowance_figures.specs.Allowances.{allowance, allowances}

-- the array zs has the figures of xs before place a
pub record Kept (a : ℕ) (xs zs : List ℤ) : Type 0 where
  pub same : (p : ℕ) → p < a → figure_at zs p ≡ figure_at xs p
  pub long : length zs ≡ length xs

pub kept_self : (a : ℕ) (xs : List ℤ) → Kept a xs xs
kept_self a xs = record { same = λ p h. refl; long = refl }

module _ (at m : ℕ) (xs ys zs : List ℤ) (kept : Kept m (sets xs at ys) zs) where
  -- what stood before the section
  pub kept_before : at ≤ m → Kept at xs zs
  kept_before h = record { same = λ p l. kept.same p (omega arith) ∙ sets_before xs at ys p (pos 0) l; long = kept.long ∙ length-sets xs at ys }

  -- the section itself
  pub kept_at : at + length ys ≤ m → at + length ys ≤ length zs → (i : ℕ) → i < length ys → figure_at zs (at + i) ≡ get_or ys i (pos 0)
  kept_at h room i l =
      kept.same (at + i) (omega arith) ∙ sets_at xs at ys i (pos 0) l (omega (arith, kept.long, length-sets xs at ys))

-- a section of n values
pub kept_value : (at m : ℕ) (xs zs : List ℤ) (g : ℕ → ℤ) (n : ℕ) → Kept m (sets xs at (up_to g n)) zs → at + n ≤ m → at + n ≤ length zs
    → (i : ℕ) → i < n → figure_at zs (at + i) ≡ g i
kept_value at m xs zs g n kept h room i l =
    let e = length_up_to g n in
    kept_at at m xs (up_to g n) zs kept (omega arith) (omega arith) i (omega arith) ∙ get_d_up_to g n i (pos 0) l

-- a section of sums, or of differences, of two sections before it
pub kept_combined : (less : Bool) (a c n at m : ℕ) (xs zs : List ℤ) → Kept m (sets xs at (combined_all less a c n xs)) zs → at + n ≤ m → a + n ≤ at → c + n ≤ at → at + n ≤ length zs
    → (i : ℕ) → i < n → figure_at zs (at + i) ≡ combined less (figure_at zs (a + i)) (figure_at zs (c + i))
unfolding combined_all
kept_combined less a c n at m xs zs kept h l r room i k =
    let g : ℕ → ℤ = λ i. combined less (figure_at xs (a + i)) (figure_at xs (c + i)) in
    let before = kept_before at m xs (up_to g n) zs kept (omega arith) in
    kept_value at m xs zs g n kept h room i k
    ∙ ap₂ (λ (x y : ℤ). combined less x y) (sym (before.same (a + i) (omega arith))) (sym (before.same (c + i) (omega arith)))

-- a section of allowances of claims that stand before it
pub kept_allowances : (more k x at m : ℕ) (xs zs : List ℤ) → Kept m (sets xs at (allowances more k x xs)) zs → at + (k + 1) ≤ m → x + (k + 1) ≤ at → at + (k + 1) ≤ length zs
    → (i : ℕ) → i ≤ k → figure_at zs (at + i) ≡ pos (allowance (nat_abs (figure_at zs (x + i))) i + more)
unfolding allowances
kept_allowances more k x at m xs zs kept h l room i r =
    let g : ℕ → ℤ = λ i. pos (allowance (nat_abs (figure_at xs (x + i))) i + more) in
    kept_value at m xs zs g (k + 1) kept h room i (omega arith)
    ∙ ap (λ (z : ℤ). pos (allowance (nat_abs z) i + more)) (sym ((kept_before at m xs (up_to g (k + 1)) zs kept (omega arith)).same (x + i) (omega arith)))
