-- Laws of the parts of a line that the functions cut. Assumes nothing.
use mathlib.Core.Path.{◌≡◌, refl, sym, ap, ◌∙◌}
use mathlib.Core.Bool.{Bool, true}
use mathlib.Core.List.{List}
use Prim.Native.Nat.{ℕ, zero, suc, ◌-◌, ◌≤◌, ◌<◌}
use native.Mathlib.Numerals.{unary_clauses}
use native.Mathlib.Omega.{arith}
use borrow.Author.Tests.{eq-eqb, ne_eqb, eqb-true}
use lib.ListN.{length, get_or, take, length-take}
use Rattle.std.proofs.lemmas.List.{get_or-take, take-take}
use Rattle.rules.specs.Lists.{every}
use Rattle.scanning.specs.Parts.{fails, before}
use Rattle.separating.proofs.Over.{every_before}
use Rattle.cells.specs.Cells.{unspaced}

-- where none fails, all come before it
pub before_all : {A : Type 0} (p : A → Bool) (xs : List A) → every p xs ≡ true → before (fails p) xs ≡ length xs
before_all p xs h = eqb-true (before (fails p) xs) (length xs) (every_before p xs ∙ h)

-- the spaces at an end: the last byte is none, or is one, or no byte is left
pub unspaced_here : (xs : List ℕ) (n : ℕ) → 0 < n → (get_or xs (n - 1) 0 ≡ 32 → ⊥) → unspaced n xs ≡ n
unfolding unspaced
unspaced_here xs zero h e = absurd (omega arith)
unspaced_here xs (suc n) h e = rw (ne_eqb (get_or xs n 0) 32 (simp unary_clauses at e))

pub unspaced_more : (xs : List ℕ) (n : ℕ) → 0 < n → get_or xs (n - 1) 0 ≡ 32 → unspaced n xs ≡ unspaced (n - 1) xs
unfolding unspaced
unspaced_more xs zero h e = absurd (omega arith)
unspaced_more xs (suc n) h e = simp unary_clauses (rw (eq-eqb (get_or xs n 0) 32 (simp unary_clauses at e)))

pub unspaced_none : (xs : List ℕ) (n : ℕ) → n ≤ 0 → unspaced n xs ≡ 0
unfolding unspaced
unspaced_none xs zero h = refl
unspaced_none xs (suc n) h = absurd (omega arith)

-- the same of the front that is left of a text: its last byte is none, or is one, or no byte is left
module _ (xs ys : List ℕ) (front : ys ≡ take (length ys) xs) (room : length ys ≤ length xs) (left : unspaced (length xs) xs ≡ unspaced (length ys) xs) where
  same_last : 0 < length ys → get_or ys (length ys - 1) 0 ≡ get_or xs (length ys - 1) 0
  same_last h = ap (λ l. get_or l (length ys - 1) 0) front ∙ get_or-take (length ys) xs (length ys - 1) 0 (omega arith)

  pub front_here : 0 < length ys → (get_or ys (length ys - 1) 0 ≡ 32 → ⊥) → length ys ≡ unspaced (length xs) xs
  front_here h e = sym (left ∙ unspaced_here xs (length ys) h (λ f. e (same_last h ∙ f)))

  pub front_more : 0 < length ys → get_or ys (length ys - 1) 0 ≡ 32 → (zs : List ℕ) → zs ≡ take (length ys - 1) ys
      → (zs ≡ take (length zs) xs) × ((length zs ≤ length xs) × (unspaced (length xs) xs ≡ unspaced (length zs) xs))
  front_more h e zs z =
      let n : length zs ≡ length ys - 1 = rw z (omega (arith, length-take (length ys - 1) ys)) in (
        z ∙ ap (take (length ys - 1)) front ∙ take-take (length ys - 1) (length ys) xs (omega arith) ∙ rw n,
        (omega (arith, n), left ∙ unspaced_more xs (length ys) h (sym (same_last h) ∙ e) ∙ rw n),
      )

  pub front_none : length ys < 1 → length ys ≡ unspaced (length xs) xs
  front_none h =
      let n : length ys ≡ 0 = omega arith in
      n ∙ sym (left ∙ unspaced_none xs (length ys) (omega arith))
