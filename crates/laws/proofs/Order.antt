-- Tests of order between signed numbers. Assumes nothing.
use mathlib.Core.Path.{◌≡◌, refl, sym}
use mathlib.Core.Bool.{true, false, ◌&&◌, and-false}
use borrow.Author.Tests.{ltb-true, ltb-false, lt-leb, le-leb}
use lib.IntN.{ℤ, pos, negsuc}
use lib.Signed.{lt_z, le_z}

-- below is not at least
pub less_yes : (a b : ℤ) → lt_z a b ≡ true → le_z b a ≡ false
less_yes (pos a) (pos b) t = lt-leb b a (ltb-true a b t)
less_yes (pos a) (negsuc b) t = sym t
less_yes (negsuc a) (pos b) t = refl
less_yes (negsuc a) (negsuc b) t = lt-leb a b (ltb-true b a t)

-- not below is at least
pub less_no : (a b : ℤ) → lt_z a b ≡ false → le_z b a ≡ true
less_no (pos a) (pos b) t = le-leb b a (ltb-false a b t)
less_no (pos a) (negsuc b) t = refl
less_no (negsuc a) (pos b) t = sym t
less_no (negsuc a) (negsuc b) t = le-leb a b (ltb-false b a t)

-- outside a range, and inside it
module _ (a b z : ℤ) where
  pub under : lt_z z a ≡ true → le_z a z && le_z z b ≡ false
  under t = rw (less_yes z a t)

  pub over : lt_z b z ≡ true → le_z a z && le_z z b ≡ false
  over t = rw (less_yes b z t) (and-false (le_z a z))

  pub inside : lt_z z a ≡ false → lt_z b z ≡ false → le_z a z && le_z z b ≡ true
  inside t u = rw (less_no z a t, less_no b z u)
