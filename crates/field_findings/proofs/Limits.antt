-- The value of the field that is named is not from the least to the most of its kind, but for an increment whose bits are a zero with sign 1: its value is 0. Assumes nothing.
use Prim.Native.Nat.{ℕ, suc, ◌^◌, ◌<◌}
use native.Mathlib.Omega.{arith}
use borrow.Author.Tests.{eqb-true, leb-false, lt-leb}
use mathlib.Core.Path.{◌≡◌, refl, sym, ◌∙◌}
use mathlib.Core.Bool.{Bool, true, false, ◌&&◌, and-true, and-false}
use mathlib.Core.List.{List}
use lib.Dec.{leb, leb-zero}
use lib.IntN.{ℤ, pos, negsuc, neg_ℤ, nat_abs}
use lib.Signed.{le_z}
use Rattle.rules.specs.Record.{Kind, layout, increment, most_amount, value_of, in_range, negative_zero, bits_in_range, last_year_of}
use Rattle.reasons.proofs.Counted.{no_both}
use Rattle.field_rows.specs.Rows.{kind_of}
use Rattle.field_findings.specs.Fields.{code_at, field_passes, first_row, first_field_of, least_of, finding_at, field_finding}
use Rattle.field_findings.proofs.Placed.{by_row}
use Rattle.field_findings.proofs.Named.{FieldFound}

-- whether a value is from the least to the most of a kind
abbrev within_limits : Kind → ℤ → Bool
within_limits κ v = le_z (least_of κ) v && le_z v (pos κ.most)

-- a size above the most of an increment
past : (v : ℤ) → leb (nat_abs v) most_amount ≡ false → le_z (neg_ℤ (pos most_amount)) v && le_z v (pos most_amount) ≡ false
past (pos n) e = rw e (and-false (le_z (neg_ℤ (pos most_amount)) (pos n)))
past (negsuc n) e = rw (lt-leb n 9999999999 (omega (arith, leb-false (suc n) most_amount e)))

-- a code that is not in range and no zero with sign 1
abbrev Outside : ℕ → ℕ → ℕ → Type 0
Outside k x r = bits_in_range (kind_of k r) x ≡ false → negative_zero (kind_of k r) x ≡ false → within_limits (kind_of k r) (value_of (kind_of k r) x) ≡ false

plain : (w l m x : ℕ) → bits_in_range (record { signed = false; width = w; least = l; most = m }) x ≡ false
    → within_limits (record { signed = false; width = w; least = l; most = m }) (value_of (record { signed = false; width = w; least = l; most = m }) x) ≡ false
unfolding bits_in_range in_range negative_zero value_of least_of
plain w l m x e = sym (and-true (leb l x && leb x m)) ∙ e

signed : (x : ℕ) → bits_in_range increment x ≡ false → negative_zero increment x ≡ false → within_limits increment (value_of increment x) ≡ false
unfolding bits_in_range in_range least_of
signed x e z =
    let v = value_of increment x in
    past v (rw (z, and-true (leb 0 (nat_abs v) && leb (nat_abs v) most_amount), leb-zero (nat_abs v)) at e)

outside : (k x r : ℕ) → r < 8 → Outside k x r
unfolding layout
outside k x =
    by_row (Outside k x) (λ e z. plain _ _ _ x e) (λ e z. plain _ _ _ x e) (signed x) (λ e z. plain _ _ _ x e) (λ e z. plain _ _ _ x e) (λ e z. plain _ _ _ x e) (λ e z. plain _ _ _ x e) (λ e z. plain _ _ _ x e)

-- a zero with sign 1 is an increment, and its value is 0
abbrev Zero : ℕ → ℕ → ℕ → Type 0
Zero k x r = negative_zero (kind_of k r) x ≡ true → (r ≡ 2) × (value_of (kind_of k r) x ≡ pos 0)

minus_zero_lem : (x : ℕ) → negative_zero increment x ≡ true → value_of increment x ≡ pos 0
unfolding negative_zero value_of
minus_zero_lem x z = rw (eqb-true x (2 ^ 34) z)

no_sign : {A : Type 0} → ◌≡◌ {A = Bool} false true → A
no_sign e = absurd (no_both false e refl)

zeros : (k x r : ℕ) → r < 8 → Zero k x r
unfolding layout negative_zero
zeros k x = by_row (Zero k x) no_sign no_sign (λ z. (refl, minus_zero_lem x z)) no_sign no_sign no_sign no_sign no_sign

-- whether the bits of the field that is named are a zero with sign 1
unfoldable pub is_minus_zero : List ℕ → Bool
is_minus_zero s = negative_zero (kind_of (last_year_of s) (first_row s)) (code_at s (first_row s) (first_field_of s (first_row s)))

-- zero is from the least to the most of an increment
zero_within : (k : ℕ) → within_limits (kind_of k 2) (pos 0) ≡ true
unfolding layout least_of
zero_within k = refl

at_zero : (s : List ℕ) → first_row s ≡ 2 → le_z (field_finding s).two (pos 0) && le_z (pos 0) (field_finding s).three ≡ true
unfolding field_finding finding_at
at_zero s e = rw e (zero_within (last_year_of s))

module _ (s : List ℕ) (f : FieldFound s (first_row s) (first_field_of s (first_row s))) where
  pub limits_no : is_minus_zero s ≡ false → le_z (field_finding s).two (field_finding s).one && le_z (field_finding s).one (field_finding s).three ≡ false
  unfolding is_minus_zero field_finding finding_at field_passes
  limits_no z = outside (last_year_of s) (code_at s (first_row s) (first_field_of s (first_row s))) (first_row s) f.few f.no z

  pub minus_zero_named : is_minus_zero s ≡ true → (first_row s ≡ 2) × ((field_finding s).one ≡ pos 0)
  unfolding is_minus_zero field_finding finding_at
  minus_zero_named z = zeros (last_year_of s) (code_at s (first_row s) (first_field_of s (first_row s))) (first_row s) f.few z

  -- an increment that is named with the value 0 has such bits
  pub zero_named : first_row s ≡ 2 → (field_finding s).one ≡ pos 0 → is_minus_zero s ≡ true
  zero_named e o = go (is_minus_zero s) refl
    where
      go : (b : Bool) → is_minus_zero s ≡ b → is_minus_zero s ≡ true
      go true z = z
      go false z = absurd (no_both _ (at_zero s e) (rw o at (limits_no z)))
