-- The title, the line and the record of an input by the places where they stand, and an input without a record, which question 1 refuses. Assumes nothing.
use mathlib.Core.Path.{◌≡◌, refl, sym, ◌∙◌}
use mathlib.Core.List.{List, [], ◌∷◌, ◌++◌}
use Prim.Native.Nat.{ℕ, ◌+◌, ◌-◌, ◌≤◌, ◌<◌, min}
use native.Mathlib.Decide.{dec_le}
use native.Mathlib.Omega.{arith}
use lib.ListN.{length, take, drop, length-take, length-drop, drop_of_length-le}
use lib.Seq.{take_all, drop-length}
use Rattle.rules.specs.Questions.{first_no}
use Rattle.rules.specs.Reading.{has_last_year, opening_questions}
use Rattle.rules.specs.Engine.{questions, run_answer}
use Rattle.laws.proofs.Lists.{from_place}
use Rattle.valuation.specs.Valuation.{pair_at}
use Rattle.titled_input.specs.Titled.{first_in, title_size, title_end, rates_size, title_in, rates_in, titled_record_in, Split}
use Rattle.titled_input.specs.declared.Parts.{Parts}

-- what stands from a place on, or from the end where the input ends before it
from_least : (s : List ℕ) (a r : ℕ) → r ≡ min a (length s) → drop r s ≡ drop a s
from_least s a r e = go (dec_le a (length s))
  where
    go : Dec (a ≤ length s) → drop r s ≡ drop a s
    go (yes h) =
        let f : r ≡ a = omega arith in
        rw f
    go (no h) =
        let f : r ≡ length s = omega arith in
        rw (f, drop-length s) (sym (drop_of_length-le s {i = a} (omega arith)))

-- a part of so many bytes from a place on, as far as the input goes, stands between these places
part_here : (s : List ℕ) (a size from to : ℕ) → from ≡ min a (length s) → to ≡ min (a + size) (length s) → take (to - from) (drop from s) ≡ take size (drop a s)
part_here s a size from to e f = rw (from_least s a from e) (go (dec_le (a + size) (length s)))
  where
    go : Dec (a + size ≤ length s) → take (to - from) (drop a s) ≡ take size (drop a s)
    go (yes h) =
        let m : to - from ≡ size = omega arith in
        rw m
    go (no h) =
        take_all (to - from) (drop a s) (omega (arith, length-drop a s)) ∙ sym (take_all size (drop a s) (omega (arith, length-drop a s)))

-- so do the title, the line and the record
pub split_here : (s : List ℕ) (title sized rates packed end size : ℕ) → end ≡ title_end s → title_size s < 256 → size ≡ rates_size s → size < 256 → title ≡ min 5 (length s)
    → sized ≡ min end (length s) → rates ≡ min (end + 1) (length s) → packed ≡ min (end + 1 + size) (length s)
    → Split s (record { title = title; sized = sized; rates = rates; packed = packed })
unfolding title_in rates_in titled_record_in
split_here s title sized rates packed end size e few f least t z r p =
    record {
      titled_inside = (omega arith, omega arith);
      inside = (omega arith, omega arith);
      titled = part_here s 5 (title_size s) title sized t (rw e at z);
      rated = part_here s (title_end s + 1) (rates_size s) rates packed (rw e at r) (rw (e, f) at p);
      recorded = from_least s (title_end s + 1 + rates_size s) packed (rw (e, f) at p);
      short = (omega (arith, length-take (title_size s) (drop 5 s)), omega (arith, length-take (rates_size s) (drop (title_end s + 1) s)));
    }

-- the part of an input from its record on
pub record-part : (s : List ℕ) (parts : Parts) → Split s parts → take (length s - parts.packed) (drop parts.packed s) ≡ titled_record_in s
record-part s parts p = from_place s parts.packed ∙ p.recorded

-- an input that ends with its line or before has no record
pub no_record : (s : List ℕ) → length s ≤ title_end s + 1 + rates_size s → titled_record_in s ≡ []
unfolding titled_record_in
no_record s h = drop_of_length-le s {i = title_end s + 1 + rates_size s} h

pub refused_one : (s : List ℕ) (year m : ℕ) → length s ≤ title_end s + 1 + rates_size s → run_answer year (titled_record_in s) m ≡ 1
unfolding run_answer questions opening_questions has_last_year first_no
refused_one s year m h = rw (no_record s h)

-- 2012, `Book` and `ab` for a line before a record of two bytes, the same without a line, and inputs that are cut
abbrev years : List ℕ
years = 7 ∷ 235 ∷ 7 ∷ 220 ∷ 4 ∷ 66 ∷ 111 ∷ 111 ∷ 107 ∷ []

abbrev given : List ℕ
given = years ++ (2 ∷ 97 ∷ 98 ∷ 48 ∷ 1 ∷ [])

abbrev unrated : List ℕ
unrated = years ++ (0 ∷ 48 ∷ 1 ∷ [])

pub worked_inputs : ((first_in given ≡ 2012) × ((title_in given ≡ 66 ∷ 111 ∷ 111 ∷ 107 ∷ []) × ((rates_in given ≡ 97 ∷ 98 ∷ []) × (titled_record_in given ≡ 48 ∷ 1 ∷ []))))
    × (((rates_in unrated ≡ []) × (titled_record_in unrated ≡ 48 ∷ 1 ∷ []))
    × ((title_in (take 7 given) ≡ 66 ∷ 111 ∷ []) × ((rates_in (take 11 given) ≡ 97 ∷ []) × (first_in (take 2 given) ≡ 0))))
unfolding first_in title_in rates_in titled_record_in pair_at
worked_inputs = ((refl, (refl, (refl, refl))), ((refl, refl), (refl, (refl, refl))))
