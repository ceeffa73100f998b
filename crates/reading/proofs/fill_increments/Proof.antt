-- The loop's invariant: the first i increments are in range and stored; the first that is not ends them (Filling). Assumes nothing.
use borrow.Author.Rules.{rules, sfits_of}
use mathlib.Core.Path.{◌≡◌, refl, sym, ap, ◌∙◌}
use mathlib.Core.Bool.{true, false}
use mathlib.Core.List.{List, map}
use Prim.Native.Nat.{ℕ, ◌+◌, ◌-◌, ◌*◌, ◌≤◌, ◌<◌}
use native.Mathlib.Omega.{arith}
use lib.IntN.{ℤ}
use lib.ListN.{set}
use lib.Seq.{sets}
use mir.Syntax.{w64}
use mir.Facts.{to_z-of_z}
use Rattle.rules.specs.Lists.{up_to, every}
use Rattle.rules.specs.Record.{increment, value_of, bits_in_range}
use Rattle.entries.specs.Leading.{passing}
use Rattle.entries.proofs.Leading.{passing_all, stop_value}
use Rattle.packing.specs.Field.{field_at, row_at}
use Rattle.packing.proofs.Pack.{field_lt}
use Rattle.laws.proofs.Joined.{sets_next}
use Rattle.laws.proofs.Lists.{every_next, fails_at}
use Rattle.reading.proofs.fill_increments.Statement.{statement}
use Rattle.reading.proofs.fill_increments.Tie as tie

abbrev invariant-loop : tie.invariant-loop-i
invariant-loop s at n amounts₀ i₀ amounts i =
    (i ≤ n) × (amounts ≡ sets amounts₀ 0 (map (value_of increment) (row_at s at 35 i))) × (every (bits_in_range increment) (row_at s at 35 i) ≡ true)

abbrev decreases-loop : tie.decreases-loop-i
decreases-loop s at n amounts₀ i₀ amounts i = n - i

module _ (s : List ℕ) (at : ℕ) (amounts : List ℤ) (i x : ℕ) (e : x ≡ field_at s (at + 35 * i) 35) (h : every (bits_in_range increment) (row_at s at 35 i) ≡ true) where
  -- increment i out of range
  outside : (n : ℕ) (amounts' : List ℤ) → i < n → amounts' ≡ sets amounts 0 (map (value_of increment) (row_at s at 35 i)) → bits_in_range increment x ≡ false
      → (false ≡ every (bits_in_range increment) (row_at s at 35 n)) × (amounts' ≡ sets amounts 0 (map (value_of increment) (passing (bits_in_range increment) (row_at s at 35 n))))
  unfolding row_at
  outside n amounts' l r o =
      let f : ℕ → ℕ = λ j. field_at s (at + 35 * j) 35 in
      let no : bits_in_range increment (f i) ≡ false = rw e at o in (
        sym (fails_at (bits_in_range increment) f n i l no),
        r ∙ ap (λ (xs : List ℕ). sets amounts 0 (map (value_of increment) xs)) (sym (stop_value (bits_in_range increment) f n i l h no).1),
      )

  -- increment i in range
  inside : bits_in_range increment x ≡ true
      → (set (sets amounts 0 (map (value_of increment) (row_at s at 35 i))) i (value_of increment x) ≡ sets amounts 0 (map (value_of increment) (row_at s at 35 (i + 1))))
      × (every (bits_in_range increment) (row_at s at 35 (i + 1)) ≡ true)
  unfolding row_at
  inside o =
      let f : ℕ → ℕ = λ j. field_at s (at + 35 * j) 35 in
      (rw e (sets_next (value_of increment) f amounts i), every_next (bits_in_range increment) f i h (rw e at o))

-- every increment in range
whole_row : (s : List ℕ) (at n : ℕ) (amounts amounts' : List ℤ) (i : ℕ) → i ≡ n → amounts' ≡ sets amounts 0 (map (value_of increment) (row_at s at 35 i))
    → every (bits_in_range increment) (row_at s at 35 i) ≡ true
    → (true ≡ every (bits_in_range increment) (row_at s at 35 n)) × (amounts' ≡ sets amounts 0 (map (value_of increment) (passing (bits_in_range increment) (row_at s at 35 n))))
whole_row s at n amounts amounts' i e r h =
    let all = rw e at h in
    (sym all, rw (passing_all (bits_in_range increment) (row_at s at 35 n) all) (rw e at r))

loop-holds : tie.Need-loop-i-init invariant-loop decreases-loop
unfolding row_at up_to every
loop-holds c = (omega arith, refl, refl)

mul-field : tie.Need-overflow_mul-i invariant-loop decreases-loop
mul-field c = search rules

add-field : tie.Need-overflow_add-at invariant-loop decreases-loop
add-field c = search rules

field-requires : tie.Need-field-code-requires invariant-loop decreases-loop
field-requires c κs = search rules

sound-requires : tie.Need-sound-requires invariant-loop decreases-loop
sound-requires c κs =
    let a = c.before.before.before.before.args in
    rw c.field-code.ensures (field_lt a.s.now (a.at + 35 * c.before.before.loop-i.i) 35)

returns : tie.Need-returns-then-not-sound invariant-loop decreases-loop
returns c =
    let a = c.before.before.before.before.before.before.args in
    let l = c.before.before.before.before.loop-i in
    let no = sym c.before.sound.ensures ∙ c.if-not-sound.true in
    outside a.s.now a.at a.amounts.now l.i c.before.before.field-code.result c.before.before.field-code.ensures l.invariant.2 a.n l.amounts (omega arith) l.invariant.1 no

amount-requires : tie.Need-amount-requires invariant-loop decreases-loop
amount-requires c κs =
    let a = c.before.before.before.before.before.before.args in
    rw c.before.before.field-code.ensures (field_lt a.s.now (a.at + 35 * c.before.before.before.before.loop-i.i) 35)

mul-t9 : tie.Need-offset_bounds-amounts-i invariant-loop decreases-loop
mul-t9 c = search rules

element-set-from-amounts : tie.Need-bounds-amounts-i invariant-loop decreases-loop
element-set-from-amounts c = search rules

add-i : tie.Need-overflow_step-i invariant-loop decreases-loop
add-i c = search rules

loop-less : tie.Need-loop-i-smaller invariant-loop decreases-loop
loop-less c = search rules

loop-again : tie.Need-loop-i-preserved invariant-loop decreases-loop
loop-again c =
    let a = c.before.before.before.before.before.before.before.args in
    let l = c.before.before.before.before.before.loop-i in
    let ok = sym c.before.before.sound.ensures ∙ c.before.if-not-sound.false in
    let next = inside a.s.now a.at a.amounts.now l.i c.before.before.before.field-code.result c.before.before.before.field-code.ensures l.invariant.2 ok in
    let kept = to_z-of_z {w = w64} {z = c.amount.result} (sfits_of c.amount.type_inv) in
    (omega arith, rw (kept, c.amount.ensures, l.invariant.1) next.0, next.1)

returns-2 : tie.Need-returns invariant-loop decreases-loop
returns-2 c =
    let a = c.before.before.before.args in
    let l = c.before.loop-i in
    whole_row a.s.now a.at a.n a.amounts.now l.amounts l.i (omega arith) l.invariant.1 l.invariant.2

pub fill_increments_spec : {M : Type 1} → statement M
fill_increments_spec =
    tie.close
    (tie.spec
    invariant-loop
    decreases-loop
    loop-holds
    mul-field
    add-field
    field-requires
    sound-requires
    returns
    amount-requires
    mul-t9
    element-set-from-amounts
    add-i
    loop-less
    loop-again
    returns-2)
