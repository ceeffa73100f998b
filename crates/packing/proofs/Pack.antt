-- Fields packed into a number and taken out of it again, bytes as the case of width 8, and rows of one width found by their places. Assumes nothing.
use mathlib.Core.Path.{◌≡◌, refl, sym, ap, ap₂, ◌∙◌}
use mathlib.Core.List.{List, [], ◌∷◌, ◌++◌}
use Prim.Native.Nat.{ℕ, zero, suc, ◌+◌, ◌-◌, ◌*◌, ◌/◌, ◌%◌, ◌^◌, ◌≤◌, ◌<◌}
use native.Mathlib.Nat.{add_comm, add-zero, mod-eq_of_lt, mod-lt, mod-one, mul-add-div_right, mul-add-mod_self_right, mul-le-mul_left, sub-zero, suc-sub-suc}
use native.Mathlib.Numerals.{add-one}
use native.Mathlib.Omega.{arith}
use lib.Arith.{digits_lt}
use lib.Dec.{lit<}
use lib.ListN.{length, get_or, take, replicate, length-append, length-replicate, replicate-append-replicate}
use lib.Pow.{pow-add, pow_pos, shr-shr, high, mod-pow-add}
use lib.Seq.{length-take-le, take-suc}
use Rattle.rules.specs.Packing.{pack, unpack, number_of, bytes_of, Fit}
use Rattle.rules.specs.Lists.{total, up_to}
use Rattle.packing.specs.Field.{field_at, row_at}
use Rattle.laws.proofs.Totals.{total_append}
use Rattle.laws.proofs.Lists.{length_up_to, up_to_ext, up_to_cons}

-- the widths of n fields of one width
pub total_replicate : (n w : ℕ) → total (replicate n w) ≡ w * n
unfolding total
total_replicate zero w = omega arith
total_replicate (suc n) w = omega (arith, total_replicate n w)

-- as many fields as widths
pub length_unpack : (ws : List ℕ) (n : ℕ) → length (unpack ws n) ≡ length ws
unfolding unpack
length_unpack [] n = refl
length_unpack (w ∷ ws) n = ap suc (length_unpack ws n)

-- the fields of two rows, one after the other: the first row's are those of the bits before the second's
pub unpack_append : (ws vs : List ℕ) (n : ℕ) → unpack (ws ++ vs) n ≡ unpack ws (n / 2 ^ total vs) ++ unpack vs n
unfolding unpack
unpack_append [] vs n = refl
unpack_append (w ∷ ws) vs n =
    rw (total_append ws vs, add_comm (total ws) (total vs), ← shr-shr n (total vs) (total ws), unpack_append ws vs n)

-- two rows packed one after the other
pub pack_append : (ws vs xs ys : List ℕ) → length xs ≡ length ws → pack (ws ++ vs) (xs ++ ys) ≡ pack ws xs * 2 ^ total vs + pack vs ys
unfolding pack
pack_append [] vs [] ys e = omega arith
pack_append [] vs (x ∷ xs) ys e = absurd (omega arith)
pack_append (w ∷ ws) vs [] ys e = absurd (omega arith)
pack_append (w ∷ ws) vs (x ∷ xs) ys e =
    rw (total_append ws vs, pow-add 2 (total ws) (total vs), pack_append ws vs xs ys (omega arith)) (omega arith)

-- one field more of the same width
pub pack_more : (w : ℕ) (xs : List ℕ) (x : ℕ) → pack (replicate (length xs + 1) w) (xs ++ (x ∷ [])) ≡ pack (replicate (length xs) w) xs * 2 ^ w + x
unfolding pack total
pack_more w xs x =
    rw (← replicate-append-replicate (length xs) 1 w, pack_append (replicate (length xs) w) (w ∷ []) xs (x ∷ []) (sym (length-replicate (length xs) w)), add-zero w)
    (omega arith)

-- each field is below two to its width, and there are as many fields as widths
pub data Fits : List ℕ → List ℕ → Type 0 where
  none : Fits [] []
  more : {w x : ℕ} {ws xs : List ℕ} → x < 2 ^ w → Fits ws xs → Fits (w ∷ ws) (x ∷ xs)

-- as many fields as widths
pub fits_length : {ws xs : List ℕ} → Fits ws xs → length xs ≡ length ws
fits_length none = refl
fits_length (more h f) = ap suc (fits_length f)

-- two rows, one after the other
pub fits_append : {ws vs xs ys : List ℕ} → Fits ws xs → Fits vs ys → Fits (ws ++ vs) (xs ++ ys)
fits_append none g = g
fits_append (more h f) g = more h (fits_append f g)

-- fields of one width, each below two to it, fit
pub fits_row : (w : ℕ) (xs : List ℕ) → Fit w xs → Fits (replicate (length xs) w) xs
fits_row w [] h = none
fits_row w (x ∷ xs) h = more (h 0) (fits_row w xs (λ i. h (suc i)))

-- and fields of one width that fit are each below two to it
pub row_fits : (w n : ℕ) (xs : List ℕ) → Fits (replicate n w) xs → Fit w xs
row_fits w zero [] none i = pow_pos w
row_fits w zero (x ∷ xs) f i = elim f [ ]
row_fits w (suc n) [] f i = elim f [ ]
row_fits w (suc n) (x ∷ xs) (more h f) zero = h
row_fits w (suc n) (x ∷ xs) (more h f) (suc i) = row_fits w n xs f i

-- the packed number has no more bits than its widths say
pub pack_lt : {ws xs : List ℕ} → Fits ws xs → pack ws xs < 2 ^ total ws
unfolding pack total
pack_lt none = lit< tt
pack_lt (more {w} {x} {ws} {xs} h f) = rw (pow-add 2 w (total ws)) (digits_lt h (pack_lt f))

-- the bits before those of the fields do not matter
pub unpack_low : (ws : List ℕ) (high n : ℕ) → unpack ws (high * 2 ^ total ws + n) ≡ unpack ws n
unfolding unpack total
unpack_low [] high n = refl
unpack_low (w ∷ ws) high n =
    let e : high * 2 ^ (w + total ws) ≡ high * 2 ^ w * 2 ^ total ws = rw (pow-add 2 w (total ws)) (omega arith) in
    rw (e, unpack_low ws (high * 2 ^ w) n, mul-add-div_right (pow_pos (total ws)) (high * 2 ^ w) n, mul-add-mod_self_right high (2 ^ w) (n / 2 ^ total ws))

-- fields that fit come back as they were packed
pub unpack_pack : {ws xs : List ℕ} → Fits ws xs → unpack ws (pack ws xs) ≡ xs
unfolding unpack pack
unpack_pack none = refl
unpack_pack (more {w} {x} {ws} {xs} h f) =
    rw (high x (total ws) (pack_lt f), mod-eq_of_lt h, unpack_low ws x (pack ws xs), unpack_pack f)

-- the fields of a number, packed again, are its last bits
pub pack_unpack : (ws : List ℕ) (n : ℕ) → pack ws (unpack ws n) ≡ n % 2 ^ total ws
unfolding unpack pack total
pack_unpack [] n = sym (mod-one n)
pack_unpack (w ∷ ws) n = rw (pack_unpack ws n) (sym (mod-pow-add n w (total ws)))

-- the fields of a number fit their widths
pub unpack_fits : (ws : List ℕ) (n : ℕ) → Fits ws (unpack ws n)
unfolding unpack
unpack_fits [] n = none
unpack_fits (w ∷ ws) n = more (mod-lt (n / 2 ^ total ws) (pow_pos w)) (unpack_fits ws n)

-- bytes one after the other
pub number_append : (s t : List ℕ) → number_of (s ++ t) ≡ number_of s * 2 ^ (8 * length t) + number_of t
unfolding number_of
number_append s t =
    rw (length-append s t, ← replicate-append-replicate {A = ℕ} (length s) (length t) 8, ← total_replicate (length t) 8)
    (pack_append (replicate (length s) 8) (replicate (length t) 8) s t (sym (length-replicate (length s) 8)))

-- the number of some bytes has no more bits than they have
pub number_lt : (s : List ℕ) → Fit 8 s → number_of s < 2 ^ (8 * length s)
unfolding number_of
number_lt s h = rw (← total_replicate (length s) 8) (pack_lt (fits_row 8 s h))

-- bytes come back from their number
pub bytes_number : (s : List ℕ) → Fit 8 s → bytes_of (length s) (number_of s) ≡ s
unfolding number_of bytes_of
bytes_number s h = unpack_pack (fits_row 8 s h)

-- as many bytes as asked for
pub length_bytes : (m n : ℕ) → length (bytes_of m n) ≡ m
unfolding bytes_of
length_bytes m n = length_unpack (replicate m 8) n ∙ length-replicate m 8

-- the bytes of a number have its last bits
pub number_bytes : (m n : ℕ) → number_of (bytes_of m n) ≡ n % 2 ^ (8 * m)
unfolding number_of bytes_of
number_bytes m n = rw (length_unpack (replicate m 8) n, length-replicate {A = ℕ} m 8, ← total_replicate m 8) (pack_unpack (replicate m 8) n)

-- each is a byte
pub bytes_small : (m n : ℕ) → Fit 8 (bytes_of m n)
unfolding bytes_of
bytes_small m n = row_fits 8 m (unpack (replicate m 8) n) (unpack_fits (replicate m 8) n)

-- the bits after field i of n
place : (at w n after m i : ℕ) → at + w * n + after ≡ m → i < n → after + w * (n - suc i) ≡ m - (at + w * i + w)
place at w n after m i e h =
    let k : n ≡ n - suc i + suc i = omega arith in
    omega (arith, ap (λ (z : ℕ). w * z) k)

-- the fields of a row of n of one width, each by the width of those after it
pub unpack_row : (w n N : ℕ) → unpack (replicate n w) N ≡ up_to (λ i. N / 2 ^ (w * (n - suc i)) % 2 ^ w) n
unfolding unpack up_to
unpack_row w zero N = refl
unpack_row w (suc n) N =
    let f : ℕ → ℕ = λ i. N / 2 ^ (w * (suc n - suc i)) % 2 ^ w in
    ap₂ {C = List ℕ} ◌∷◌
    (rw (total_replicate n w, suc-sub-suc n 0, sub-zero n))
    (unpack_row w n N ∙ up_to_ext (λ i. N / 2 ^ (w * (n - suc i)) % 2 ^ w) (λ i. f (suc i)) n (λ i h. rw (suc-sub-suc n (suc i))))
    ∙ sym (up_to_cons f n)

-- the fields of a row whose bits end before the last ones are the fields found by their places
pub row_fields_are : (s : List ℕ) (at w n after : ℕ) → at + w * n + after ≡ 8 * length s
    → unpack (replicate n w) (number_of s / 2 ^ after) ≡ row_at s at w n
unfolding row_at field_at
row_fields_are s at w n after e =
    unpack_row w n (number_of s / 2 ^ after)
    ∙ up_to_ext (λ i. number_of s / 2 ^ after / 2 ^ (w * (n - suc i)) % 2 ^ w) (λ i. field_at s (at + w * i) w) n
    (λ i h. rw (shr-shr (number_of s) after (w * (n - suc i)), place at w n after (8 * length s) i e h))

-- n fields
pub length_row : (s : List ℕ) (at w n : ℕ) → length (row_at s at w n) ≡ n
unfolding row_at
length_row s at w n = length_up_to (λ i. field_at s (at + w * i) w) n

-- a field is below two to its width
pub field_lt : (s : List ℕ) (at w : ℕ) → field_at s at w < 2 ^ w
unfolding field_at
field_lt s at w = mod-lt (number_of s / 2 ^ (8 * length s - (at + w))) (pow_pos w)

-- there is room for field i of n
pub room : (w i n : ℕ) → i < n → w * i + w ≤ w * n
room w i n h = omega (arith, mul-le-mul_left {m = i + 1} {n = n} w (omega arith))

-- the first fields of a row, and one more
pub pack_next : (w : ℕ) (vs : List ℕ) (i : ℕ) → i < length vs
    → pack (replicate (i + 1) w) (take (i + 1) vs) ≡ pack (replicate i w) (take i vs) * 2 ^ w + get_or vs i 0
pack_next w vs i h =
    rw (add-one, take-suc vs i 0 h) (rw (length-take-le i vs (omega arith), add-one i) at (pack_more w (take i vs) (get_or vs i 0)))
