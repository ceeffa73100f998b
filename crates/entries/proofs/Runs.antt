-- Runs of stores, one after another, and one store more. Assumes nothing.
use mathlib.Core.Path.{◌≡◌, sym, ◌∙◌}
use mathlib.Core.List.{List, [], ◌∷◌, append_assoc, map, map-append}
use Prim.Native.Nat.{ℕ, ◌+◌, ◌-◌, ◌*◌, ◌^◌, ◌≤◌, ◌<◌}
use native.Mathlib.Decide.{dec_lt}
use native.Mathlib.Numerals.{add-one}
use native.Mathlib.Omega.{arith}
use lib.IntN.{pos}
use lib.ListN.{length, get_or, get_or-eq_default, set, take, drop, length-map}
use lib.Seq.{sets, sets-eq, take-suc, length-take-le, get_or-take, take_all, drop-drop}
use borrow.Rule.Slice.PartMut.{put_mid}
use Rattle.std.specs.List.{sum}
use Rattle.rules.specs.Lists.{total}
use Rattle.rules.specs.Completion.{most_ultimate}
use Rattle.laws.proofs.Joined.{sets_append}
use Rattle.laws.proofs.Lists.{total_most}
use Rattle.laws.proofs.Library.{total_is_sum}

-- one store more: f of entry i of xs after those of the first i
pub sets_map_more : {A B : Type 0} (f : B → A) (xs : List B) (l : List A) (at i : ℕ) (d : B) → i < length xs → set (sets l at (map f (take i xs))) (at + i) (f (get_or xs i d)) ≡ sets l at (map f (take (i + 1) xs))
sets_map_more f xs l at i d h =
    let long : length (map f (take i xs)) ≡ i = length-map (take i xs) f ∙ length-take-le i xs (omega arith) in
    rw (add-one i, take-suc xs i d, map-append f (take i xs) (get_or xs i d ∷ []))
    (sets_append (map f (take i xs)) (f (get_or xs i d) ∷ []) l at (at + i) (omega arith))

-- the first n numbers of a list make n entries
pub length_naturals : (n : ℕ) (xs : List ℕ) → n ≤ length xs → length (map pos (take n xs)) ≡ n
length_naturals n xs h = length-map (take n xs) pos ∙ length-take-le n xs h

-- a part of a list, put in its place, is a run of stores
pub part_put : {A : Type 0} (l vs : List A) (at e n : ℕ) → n ≤ length vs → at + n ≤ length l → e ≡ at + n → put_mid at (e - at) l (take n vs) ≡ sets l at (take n vs)
part_put l vs at e n h k q =
    let long : length (take n vs) ≡ n = length-take-le n vs h in
    let d : e - at ≡ n = omega arith in
    rw (d, sets-eq (take n vs) l at (omega arith), long, drop-drop n at l) (sym (append_assoc (take at l) (take n vs) (drop (at + n) l)))

total_most_of : (n : ℕ) (vs : List ℕ) → n ≤ length vs → ((i : ℕ) → i < n → get_or vs i 0 ≤ most_ultimate) → total (take n vs) ≤ n * most_ultimate
total_most_of n vs h most =
    let long : length (take n vs) ≡ n = length-take-le n vs h in
    rw (take_all n (take n vs) (omega arith)) at (total_most most_ultimate (take n vs) (λ i. each i (dec_lt i n)) n)
  where
    each : (i : ℕ) → Dec (i < n) → get_or (take n vs) i 0 ≤ most_ultimate
    each i (yes l) = rw (get_or-take n vs i 0 l) (most i l)
    each i (no l) = rw (get_or-eq_default (take n vs) 0 {n = i} (omega (arith, length-take-le n vs h))) (omega arith)

-- at most sixteen numbers, each up to the most of an ultimate, have a sum that fits
pub sum_fits : (n : ℕ) (vs : List ℕ) → n ≤ length vs → n ≤ 16 → ((i : ℕ) → i < n → get_or vs i 0 ≤ most_ultimate) → sum (take n vs) < 2 ^ 64
sum_fits n vs h k most = omega (arith, total_most_of n vs h most, sym (total_is_sum (take n vs)))
