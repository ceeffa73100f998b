-- The first i fields are in range and stored; the first that is not ends the row (Filling). Assumes nothing.
use borrow.Author.Rules.{rules}
use borrow.Author.Tests.{le-leb, lt-leb}
use mathlib.Core.Path.{◌≡◌, refl, sym, ap, ◌∙◌}
use mathlib.Core.Bool.{true, false, and-false}
use mathlib.Core.List.{List}
use Prim.Native.Nat.{ℕ, ◌+◌, ◌*◌, ◌≤◌, ◌<◌}
use native.Mathlib.Nat.{zero-add}
use native.Mathlib.Omega.{arith}
use lib.Dec.{leb}
use lib.ListN.{set}
use lib.Seq.{sets}
use Rattle.rules.specs.Lists.{up_to, every, between}
use Rattle.laws.proofs.Joined.{sets_more}
use Rattle.entries.specs.Leading.{passing}
use Rattle.entries.proofs.Leading.{passing_all, stop_value}
use Rattle.packing.specs.Field.{field_at, row_at}
use Rattle.packing.proofs.Pack.{room}
use Rattle.laws.proofs.Lists.{every_next, fails_at}
use Rattle.reading.proofs.fill_row.Goals.{then-x-least-via-then-x-least, then-x-least-via-else-x-least+then-x-most}
use Rattle.reading.proofs.fill_row.Goals as goal

module _ (s : List ℕ) (at w least most : ℕ) (row : List ℕ) (i x : ℕ) (e : x ≡ field_at s (at + w * i) w) (h : every (between least most) (row_at s at w i) ≡ true) where
  -- field i out of range
  outside : (n : ℕ) (row' : List ℕ) → i < n → row' ≡ sets row 0 (row_at s at w i) → between least most x ≡ false
      → (false ≡ every (between least most) (row_at s at w n)) × (row' ≡ sets row 0 (passing (between least most) (row_at s at w n)))
  unfolding row_at
  outside n row' l r o =
      let f : ℕ → ℕ = λ j. field_at s (at + w * j) w in
      let no : between least most (f i) ≡ false = rw e at o in
      (sym (fails_at (between least most) f n i l no), r ∙ ap (sets row 0) (sym (stop_value (between least most) f n i l h no).1))

  -- field i in range
  inside : least ≤ x → x ≤ most
      → (set (sets row 0 (row_at s at w i)) i x ≡ sets row 0 (row_at s at w (i + 1))) × (every (between least most) (row_at s at w (i + 1)) ≡ true)
  unfolding row_at
  inside l m =
      let f : ℕ → ℕ = λ j. field_at s (at + w * j) w in
      let yes : between least most x ≡ true = rw (le-leb least x l, le-leb x most m) in
      (rw (← e, zero-add i) at (sets_more f row 0 i), every_next (between least most) f i h (rw e at yes))

-- every field in range
whole_row : (s : List ℕ) (at w n least most : ℕ) (row row' : List ℕ) (i : ℕ) → i ≡ n → row' ≡ sets row 0 (row_at s at w i) → every (between least most) (row_at s at w i) ≡ true
    → (true ≡ every (between least most) (row_at s at w n)) × (row' ≡ sets row 0 (passing (between least most) (row_at s at w n)))
whole_row s at w n least most row row' i e r h =
    let all = rw e at h in
    (sym all, rw (passing_all (between least most) (row_at s at w n) all) (rw e at r))

pub loop-i-init : goal.loop-i-init
unfolding row_at up_to every
loop-i-init c = record { stored = refl; within = refl }

pub overflow_mul-w : goal.overflow_mul-w
overflow_mul-w c = omega (arith, room c.args.w c.loop-i.i c.args.n (omega arith))

pub overflow_add-at : goal.overflow_add-at
overflow_add-at c = omega (arith, room c.args.w c.loop-i.i c.args.n (omega arith))

pub field-x-requires : goal.field-x-requires
field-x-requires c = let r = room c.args.w c.loop-i.i c.args.n (omega arith) in search rules

pub returns-then-x-least : goal.returns-then-x-least
returns-then-x-least c =
    let a = c.args in
    let l = c.loop-i in
    let x = c.field-x.result in
    let no : between a.least a.most x ≡ false =
    elim c.then-x-least.branch [
      | then-x-least-via-then-x-least w ↦ rw (lt-leb a.least x w.if-x-least.true)
      | then-x-least-via-else-x-least+then-x-most w ↦ rw (lt-leb x a.most w.if-x-most.true) (and-false (leb a.least x))
    ] in
    outside a.s.now a.at a.w a.least a.most a.row.now l.i x c.field-x.ensures l.invariant.within a.n l.row (omega arith) l.invariant.stored no

pub loop-i-preserved : goal.loop-i-preserved
loop-i-preserved c =
    let a = c.args in
    let l = c.loop-i in
    let next = inside a.s.now a.at a.w a.least a.most a.row.now l.i c.field-x.result c.field-x.ensures l.invariant.within (omega arith) (omega arith) in
    record { stored = rw l.invariant.stored next.0; within = next.1 }

pub returns : goal.returns
returns c =
    let a = c.args in
    let l = c.loop-i in
    whole_row a.s.now a.at a.w a.n a.least a.most a.row.now l.row l.i (omega arith) l.invariant.stored l.invariant.within
