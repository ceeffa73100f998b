-- What a put does to the bits packed so far, a byte at a time, and puts one after another. Assumes nothing.
use mathlib.Core.Path.{◌≡◌, refl, sym, ap, ◌∙◌}
use mathlib.Core.List.{List, [], ◌∷◌, ◌++◌}
use Prim.Native.Nat.{ℕ, ◌+◌, ◌-◌, ◌*◌, ◌/◌, ◌%◌, ◌^◌, ◌≤◌, ◌<◌}
use native.Mathlib.Numerals.{add-one}
use native.Mathlib.Omega.{arith}
use lib.Arith.{digits_lt}
use lib.ListN.{length, take, drop, set, length-append}
use lib.Pow.{pow-add, shl_exact, recompose}
use lib.Seq.{take-suc-set, drop-drop}
use Rattle.rules.specs.Packing.{number_of}
use Rattle.packing.specs.declared.Pending.{Pending}
use Rattle.packing.specs.Field.{packed_so, place_of, Packable, PackedOn}
use Rattle.packing.proofs.Pack.{pack_more}

-- one byte more
pub number_more : (s : List ℕ) (b : ℕ) → number_of (s ++ (b ∷ [])) ≡ number_of s * 256 + b
unfolding number_of
number_more s b = rw (length-append s (b ∷ [])) (pack_more 8 s b)

-- the bits of x after the pending ones, as `(bits << w) + x` of the code has them
module _ {s : List ℕ} {p : Pending} {w x : ℕ} (ready : Packable s p w) (narrow : w ≤ 56) (fits : x < 2 ^ w) where
  pub added_lt : p.bits * 2 ^ w % 2 ^ 64 + x < 2 ^ (p.count + w)
  added_lt = rw (shl_exact p.count w 64 ready.small (omega arith), pow-add 2 p.count w) (digits_lt ready.small fits)

  pub added : number_of (take p.at s) * 2 ^ (p.count + w) + (p.bits * 2 ^ w % 2 ^ 64 + x) ≡ packed_so s p * 2 ^ w + x
  unfolding packed_so
  added = rw (shl_exact p.count w 64 ready.small (omega arith), pow-add 2 p.count w) (omega arith)

-- the first 8 of the pending bits, written at their place
pub byte_written : (s : List ℕ) (at count bits : ℕ) → at < length s → 8 ≤ count → bits < 2 ^ count
    → number_of (take (at + 1) (set s at (bits / 2 ^ (count - 8) % 256))) * 2 ^ (count - 8) + bits % 2 ^ (count - 8)
    ≡ number_of (take at s) * 2 ^ count + bits
byte_written s at count bits h k small =
    let m = count - 8 in
    let e : count ≡ 8 + m = omega arith in
    let p : 2 ^ count ≡ 256 * 2 ^ m = ap (λ (z : ℕ). 2 ^ z) e ∙ pow-add 2 8 m in
    let r : bits / 2 ^ m % 256 * 2 ^ m + bits % 2 ^ m ≡ bits = recompose 8 m (rw (← e) small) in
    rw (add-one, take-suc-set s at (bits / 2 ^ m % 256) h, number_more (take at s) (bits / 2 ^ m % 256), p) (omega arith)

-- lists that agree from one place on agree from a later one on
pub drop_further : (m n : ℕ) (s t : List ℕ) → m ≤ n → drop m s ≡ drop m t → drop n s ≡ drop n t
drop_further m n s t h e =
    let k : m + (n - m) ≡ n = omega arith in
    ap (λ (z : ℕ). drop z s) (sym k) ∙ sym (drop-drop (n - m) m s) ∙ ap (drop (n - m)) e ∙ drop-drop (n - m) m t ∙ ap (λ (z : ℕ). drop z t) k

-- nothing packed
pub packed_none : {s : List ℕ} {p : Pending} {w : ℕ} → Packable s p w → PackedOn s s p p 0 0
packed_none r = record { few = r.few; small = r.small; place = omega arith; packed = omega arith; after = refl }

-- one put after another
pub packed_then : {a b c : List ℕ} {p q r : Pending} {w v x y : ℕ} → PackedOn a b p q w x → PackedOn b c q r v y → PackedOn a c p r (w + v) (x * 2 ^ v + y)
unfolding place_of
packed_then {a} {b} {q} {r} {w} {v} f g = record {
  few = g.few;
  small = g.small;
  place = omega (arith, f.place, g.place);
  packed = g.packed ∙ rw (f.packed, pow-add 2 w v) (omega arith);
  after = g.after ∙ drop_further q.at r.at b a (omega (arith, g.place, g.few)) f.after;
}

-- what is left of the room
pub ready_then : {a b : List ℕ} {p q : Pending} {n w x : ℕ} (v : ℕ) → Packable a p n → PackedOn a b p q w x → length b ≡ length a → w + v ≤ n → Packable b q v
ready_then v r f e h = record { few = f.few; small = f.small; room = omega (arith, f.place, r.room); short = omega (arith, r.short) }
