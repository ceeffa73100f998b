-- Stores from a place on leave the figures before it as they are. Assumes nothing.
use Prim.Native.Nat.{ℕ, zero, suc, ◌+◌, ◌≤◌, ◌<◌}
use native.Mathlib.Omega.{arith}
use mathlib.Core.Path.{◌≡◌, refl, ◌∙◌}
use mathlib.Core.List.{List, [], ◌∷◌}
use lib.IntN.{ℤ, pos, nat_abs}
use lib.ListN.{length, get_or, set, length-set}
use lib.Seq.{sets, get_or-set_same, get_or-set_other}
use mir.Facts.{to_z-of_z}
use Rattle.laws.proofs.Signed.{held, size_fits}
use Rattle.rules.specs.Lists.{up_to}
use Rattle.rules.specs.Triangle.{sum_to}
use Rattle.laws.proofs.Lists.{up_to_ext}
use Rattle.laws.proofs.Sums.{sum_to_same}
use Rattle.signed_sums.specs.Small.{most_figure, Sized}
use Rattle.vectors.specs.Vectors.{figure_at, running}

pub sets_before : {A : Type 0} (l : List A) (at : ℕ) (ys : List A) (p : ℕ) (d : A) → p < at → get_or (sets l at ys) p d ≡ get_or l p d
sets_before l at [] p d h = refl
sets_before l at (y ∷ ys) p d h = sets_before _ (suc at) ys p d (omega arith) ∙ get_or-set_other l at p y d (λ e. omega arith)

-- a figure before the place is read as it was
pub figure_read : (l out : List ℤ) (at : ℕ) (ys : List ℤ) → out ≡ sets l at ys → (p : ℕ) → p < at → nat_abs (figure_at l p) ≤ most_figure → held (figure_at out p) ≡ figure_at l p
figure_read l out at ys e p h small =
    let same : figure_at out p ≡ figure_at l p = rw e (sets_before l at ys p (pos 0) h) in
    rw same (to_z-of_z (size_fits (figure_at l p) (omega (arith, small))))

-- figures before the place keep their size, and what is made of them stays the same
pub sized_before : (b a n : ℕ) (l : List ℤ) (at : ℕ) (ys : List ℤ) → a + n ≤ at → Sized b a n l → Sized b a n (sets l at ys)
sized_before b a n l at ys h small i k = rw (sets_before l at ys (a + i) (pos 0) (omega arith)) (small i k)

pub sum_before : (a n : ℕ) (l : List ℤ) (at : ℕ) (ys : List ℤ) → a + n ≤ at
    → sum_to (λ j. figure_at (sets l at ys) (a + j)) n ≡ sum_to (λ j. figure_at l (a + j)) n
sum_before a n l at ys h =
    sum_to_same (λ j. figure_at (sets l at ys) (a + j)) (λ j. figure_at l (a + j)) n (λ j k. sets_before l at ys (a + j) (pos 0) (omega arith))

pub running_before : (a n : ℕ) (l : List ℤ) (at : ℕ) (ys : List ℤ) → a + n ≤ at → running a n (sets l at ys) ≡ running a n l
unfolding running
running_before a n l at ys h =
    up_to_ext (λ i. sum_to (λ j. figure_at (sets l at ys) (a + j)) (i + 1)) (λ i. sum_to (λ j. figure_at l (a + j)) (i + 1)) n (λ i k. sum_before a (i + 1) l at ys (omega arith))

-- a section that was put is read back
pub sets_at : {A : Type 0} (l : List A) (at : ℕ) (ys : List A) (i : ℕ) (d : A) → i < length ys → at + i < length l → get_or (sets l at ys) (at + i) d ≡ get_or ys i d
sets_at l at [] i d h k = absurd (omega arith)
sets_at l at (y ∷ ys) zero d h k =
    let e : at + 0 ≡ at = omega arith in
    rw e (sets_before (set l at y) (suc at) ys at d (omega arith) ∙ get_or-set_same l at y d (omega arith))
sets_at l at (y ∷ ys) (suc i) d h k =
    let e : at + suc i ≡ suc at + i = omega arith in
    rw e (sets_at (set l at y) (suc at) ys i d (omega arith) (rw (length-set l at y) (omega arith)))

pub sized_stored : (b : ℕ) (l : List ℤ) (at : ℕ) (ys : List ℤ) (n : ℕ) → length ys ≡ n → at + n ≤ length l → ((i : ℕ) → nat_abs (get_or ys i (pos 0)) ≤ b) → Sized b at n (sets l at ys)
sized_stored b l at ys n e h small i k = rw (sets_at l at ys i (pos 0) (omega arith) (omega arith)) (small i)
