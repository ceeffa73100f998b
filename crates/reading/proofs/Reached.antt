-- The rows read of a layout: a row is read where every row before it is in range, and nothing is read after one that is not; and a test of every
-- field is a test of every row. Assumes nothing.
use mathlib.Core.Path.{◌≡◌, refl}
use mathlib.Core.Bool.{Bool, true, false, cond, and-false}
use mathlib.Core.List.{List, [], ◌∷◌, map}
use Prim.Native.Nat.{ℕ, zero, suc, ◌<◌}
use native.Mathlib.Nat.{not-suc-le-zero}
use native.Mathlib.Omega.{arith}
use lib.ListN.{length, get_or, take, drop}
use lib.Seq.{take-nil, drop-nil}
use Rattle.rules.specs.Lists.{every}
use Rattle.rules.specs.Record.{Kind, last_year, section, bits_in_range}
use Rattle.entries.specs.Leading.{passing}
use Rattle.laws.proofs.Lists.{both_left, both_right}
use Rattle.layout.proofs.LayoutSections.{every_row}
use Rattle.reading.specs.Reading.{rows_read}

-- the kind of the fields of row i
abbrev pub kind_at : List (ℕ × Kind) → ℕ → Kind
kind_at rs i = get_or (map (λ r. r.1) rs) i last_year

-- whether every field of row i is in range
unfoldable pub row_fits_of : List (ℕ × Kind) → List ℕ → ℕ → Bool
row_fits_of rs codes i = every (bits_in_range (kind_at rs i)) (section rs i codes)

-- nothing is read of no codes
none_read : (rs : List (ℕ × Kind)) (i : ℕ) → get_or (rows_read rs []) i [] ≡ []
unfolding rows_read passing every
none_read [] i = refl
none_read (r ∷ rs) zero = rw (take-nil {A = ℕ} r.0)
none_read (r ∷ rs) (suc i) = rw (take-nil {A = ℕ} r.0, drop-nil {A = ℕ} r.0) (none_read rs i)

-- row i, where every row before it is in range
pub reached : (rs : List (ℕ × Kind)) (codes : List ℕ) (i : ℕ) → i < length rs → ((j : ℕ) → j < i → row_fits_of rs codes j ≡ true)
    → get_or (rows_read rs codes) i [] ≡ passing (bits_in_range (kind_at rs i)) (section rs i codes)
unfolding rows_read section row_fits_of
reached [] codes i l h = absurd (not-suc-le-zero l)
reached (r ∷ rs) codes zero l h = refl
reached (r ∷ rs) codes (suc i) l h =
    let first : every (bits_in_range r.1) (take r.0 codes) ≡ true = h 0 (omega arith) in
    rw first (reached rs (drop r.0 codes) i (omega arith) (λ j m. h (suc j) (omega arith)))

-- row i, where row j before it is not
pub unreached : (rs : List (ℕ × Kind)) (codes : List ℕ) (i j : ℕ) → j < i → row_fits_of rs codes j ≡ false → get_or (rows_read rs codes) i [] ≡ []
unfolding rows_read section row_fits_of
unreached [] codes i j l e = refl
unreached (r ∷ rs) codes zero j l e = absurd (not-suc-le-zero l)
unreached (r ∷ rs) codes (suc i) zero l e =
    let first : every (bits_in_range r.1) (take r.0 codes) ≡ false = e in
    rw first (none_read rs i)
unreached (r ∷ rs) codes (suc i) (suc j) l e = go (every (bits_in_range r.1) (take r.0 codes)) (unreached rs (drop r.0 codes) i j (omega arith) e)
  where
    go : (b : Bool) → get_or (rows_read rs (drop r.0 codes)) i [] ≡ [] → get_or (rows_read rs (cond b (drop r.0 codes) [])) i [] ≡ []
    go true after = after
    go false after = none_read rs i

-- a test of every field, row by row
module _ {A : Type 0} (ok : Kind → A → Bool) where
  -- every row passes
  pub rows_pass : (rs : List (ℕ × Kind)) (xss : List (List A)) → ((i : ℕ) → i < length rs → every (ok (kind_at rs i)) (get_or xss i []) ≡ true) → every_row ok rs xss ≡ true
  rows_pass [] xss h = refl
  rows_pass (r ∷ rs) [] h = refl
  rows_pass (r ∷ rs) (xs ∷ xss) h = rw (h 0 (omega arith), rows_pass rs xss (λ i l. h (suc i) (omega arith)))

  -- one row fails
  pub row_fails : (rs : List (ℕ × Kind)) (xss : List (List A)) (i : ℕ) → i < length rs → every (ok (kind_at rs i)) (get_or xss i []) ≡ false → every_row ok rs xss ≡ false
  unfolding every
  row_fails [] xss i l e = absurd (not-suc-le-zero l)
  row_fails (r ∷ rs) [] i l e = e
  row_fails (r ∷ rs) (xs ∷ xss) zero l e = rw e
  row_fails (r ∷ rs) (xs ∷ xss) (suc i) l e = rw (row_fails rs xss i (omega arith) e) (and-false (every (ok r.1) xs))

  -- what it says of one row
  pub row_passes_lem : (rs : List (ℕ × Kind)) (xss : List (List A)) (i : ℕ) → i < length rs → every_row ok rs xss ≡ true → every (ok (kind_at rs i)) (get_or xss i []) ≡ true
  unfolding every
  row_passes_lem [] xss i l e = absurd (not-suc-le-zero l)
  row_passes_lem (r ∷ rs) [] i l e = refl
  row_passes_lem (r ∷ rs) (xs ∷ xss) zero l e = both_left (every (ok r.1) xs) (every_row ok rs xss) e
  row_passes_lem (r ∷ rs) (xs ∷ xss) (suc i) l e = row_passes_lem rs xss i (omega arith) (both_right (every (ok r.1) xs) (every_row ok rs xss) e)
