-- The loop's invariant: the first j columns are without their cells of the diagonal. Assumes nothing.
use borrow.Author.Rules.{rules, sfits_of}
use borrow.Author.Tests.{lt-ltb, le-ltb}
use mathlib.Core.Path.{◌≡◌, refl, sym, ap, ◌∙◌}
use mathlib.Core.Bool.{cond}
use mathlib.Core.List.{List, []}
use Prim.Native.Nat.{ℕ, ◌+◌, ◌-◌, ◌≤◌, ◌<◌}
use native.Mathlib.Decide.{ℕ_discrete, dec_lt}
use native.Mathlib.Omega.{arith}
use lib.Dec.{ltb}
use lib.IntN.{ℤ, pos, nat_abs, ◌-ℤ◌}
use lib.ListN.{get_or, set}
use mir.Syntax.{w64}
use mir.Facts.{to_z-of_z}
use Rattle.rules.specs.Lists.{up_to}
use Rattle.rules.specs.Triangle.{cell_of, column_total, diagonal_total}
use Rattle.laws.proofs.Lists.{get_d_up_to, up_to_ext, set_up_to}
use Rattle.laws.proofs.Signed.{held, size_fits}
use Rattle.totals.specs.CellSizes.{most_total, Cells}
use Rattle.totals.specs.Squares.{cut_of}
use Rattle.totals.proofs.Cells.{cells_size}
use Rattle.totals.proofs.Square.{cut_cells, cut_outside}
use Rattle.hindsight_fits.proofs.Dropped.{column_dropped, column_later, diagonal_other, diagonal_dropped}
use Rattle.hindsight_fits.proofs.drop_diagonal.Statement.{statement}
use Rattle.hindsight_fits.proofs.drop_diagonal.Tie as tie

-- the columns, the first j of them without their cells of the diagonal
abbrev partly : List (List ℤ) → ℕ → ℕ → ℕ → ℤ
partly rows h j c = cond (ltb c j) (column_total (cut_of rows 0 h) c) (column_total (cut_of rows 0 (h + 1)) c)

none_yet : (rows : List (List ℤ)) (h c : ℕ) → column_total (cut_of rows 0 (h + 1)) c ≡ partly rows h 0 c
none_yet rows h c = rw (le-ltb c 0 (omega arith)) refl

-- column j as it is, and as it is then
here : (rows : List (List ℤ)) (h j : ℕ) → partly rows h j j ≡ column_total (cut_of rows 0 (h + 1)) j
here rows h j = rw (le-ltb j j (omega arith)) refl

next : (rows : List (List ℤ)) (h j : ℕ) → partly rows h (j + 1) j ≡ column_total (cut_of rows 0 h) j
next rows h j = rw (lt-ltb j (j + 1) (omega arith)) refl

other : (rows : List (List ℤ)) (h j c : ℕ) → (c ≡ j → ⊥) → partly rows h j c ≡ partly rows h (j + 1) c
other rows h j c e = go (dec_lt c j)
  where
    go : Dec (c < j) → partly rows h j c ≡ partly rows h (j + 1) c
    go (yes l) = rw (lt-ltb c j l, lt-ltb c (j + 1) (omega arith)) refl
    go (no l) = rw (le-ltb c j (omega arith), le-ltb c (j + 1) (omega arith)) refl

-- all of them
all_done : (rows : List (List ℤ)) (h c : ℕ) → partly rows h (h + 1 + 1) c ≡ column_total (cut_of rows 0 h) c
all_done rows h c = go (dec_lt c (h + 1 + 1))
  where
    go : Dec (c < h + 1 + 1) → partly rows h (h + 1 + 1) c ≡ column_total (cut_of rows 0 h) c
    go (yes l) = rw (lt-ltb c (h + 1 + 1) l) refl
    go (no l) = rw (le-ltb c (h + 1 + 1) (omega arith)) (column_later rows h c (omega arith))

column_small : (s : List (List ℤ)) (c : ℕ) → Cells s → nat_abs (column_total s c) ≤ most_total
unfolding column_total
column_small s c small = cells_size s small _

abbrev invariant-loop : tie.invariant-loop-j
invariant-loop rows h columns₀ diagonals₀ last n j₀ columns j = (j ≤ n) × (columns ≡ up_to (partly rows h j) 16)

abbrev decreases-loop : tie.decreases-loop-j
decreases-loop rows h columns₀ diagonals₀ last n j₀ columns j = n - j

add-last : tie.Need-overflow_add-last invariant-loop decreases-loop
add-last c = omega (arith, c.requires.0.1.1)

add-n : tie.Need-overflow_add-n invariant-loop decreases-loop
add-n c = omega (arith, c.requires.0.1.1)

loop-holds : tie.Need-loop-j-init invariant-loop decreases-loop
loop-holds c = (omega arith, c.requires.1.totals.0 ∙ up_to_ext _ _ 16 (λ r l. none_yet c.args.rows.now c.args.h r))

sub-i : tie.Need-overflow_sub-i invariant-loop decreases-loop
sub-i c = search rules

mul-subtract : tie.Need-offset_bounds-columns-j invariant-loop decreases-loop
mul-subtract c = omega (arith, c.before.before.requires.0.1.1)

element-copy-out-subtract : tie.Need-bounds-columns-j invariant-loop decreases-loop
element-copy-out-subtract c = omega (arith, c.before.before.requires.0.1.1)

mul-subtract-2 : tie.Need-offset_bounds-rows-i invariant-loop decreases-loop
mul-subtract-2 c = omega (arith, c.before.before.before.requires.0.1.1)

mul-subtract-3 : tie.Need-offset_bounds-rows-j invariant-loop decreases-loop
mul-subtract-3 c = omega (arith, c.before.before.before.requires.0.1.1)

index-1-subtract : tie.Need-bounds-rows-i invariant-loop decreases-loop
index-1-subtract c = omega (arith, c.before.before.before.requires.0.1.0)

index-2-subtract : tie.Need-bounds-rows-j invariant-loop decreases-loop
index-2-subtract c = omega (arith, c.before.before.before.requires.0.1.1)

-- column j and its cell, as they are read
column-read : (c : tie.In-loop-j invariant-loop decreases-loop) →
    let s = c.before.before in
    let l = c.before.loop-j in
    held (get_or l.columns l.j (pos 0)) ≡ column_total (cut_of s.args.rows.now 0 (s.args.h + 1)) l.j
column-read c =
    let s = c.before.before in
    let l = c.before.loop-j in
    let rows = s.args.rows.now in
    let is : get_or l.columns l.j (pos 0) ≡ column_total (cut_of rows 0 (s.args.h + 1)) l.j
    = rw l.invariant.1 (get_d_up_to (partly rows s.args.h l.j) 16 l.j (pos 0) (omega (arith, s.requires.0.1.1)) ∙ here rows s.args.h l.j) in
    rw is (to_z-of_z (size_fits _ (omega (arith, column_small (cut_of rows 0 (s.args.h + 1)) l.j s.requires.1.cells))))

cell-read : (c : tie.In-loop-j invariant-loop decreases-loop) →
    let s = c.before.before in
    let i = s.args.h + 1 - c.before.loop-j.j in
    held (get_or (get_or s.args.rows.now i []) c.before.loop-j.j (pos 0)) ≡ cell_of s.args.rows.now i c.before.loop-j.j
unfolding cell_of
cell-read c =
    let s = c.before.before in
    let i = s.args.h + 1 - c.before.loop-j.j in
    to_z-of_z (size_fits (cell_of s.args.rows.now i c.before.loop-j.j) (omega (arith, s.requires.0.0 i c.before.loop-j.j)))

subtract-requires : tie.Need-subtract-requires invariant-loop decreases-loop
subtract-requires c κs =
    let at = c.before.before in
    let s = at.before.before in
    let l = at.before.loop-j in
    rw (column-read at, cell-read at)
    (omega (arith, column_small (cut_of s.args.rows.now 0 (s.args.h + 1)) l.j s.requires.1.cells), omega (arith, s.requires.0.0 (s.args.h + 1 - l.j) l.j))

mul-t21 : tie.Need-offset_bounds-columns-j-in-loop-j invariant-loop decreases-loop
mul-t21 c = omega (arith, c.before.before.before.before.before.requires.0.1.1)

element-set-from-columns : tie.Need-bounds-columns-j-in-loop-j invariant-loop decreases-loop
element-set-from-columns c = omega (arith, c.before.before.before.before.before.requires.0.1.1)

add-j : tie.Need-overflow_step-j invariant-loop decreases-loop
add-j c = search rules

loop-less : tie.Need-loop-j-smaller invariant-loop decreases-loop
loop-less c = search rules

loop-again : tie.Need-loop-j-preserved invariant-loop decreases-loop
loop-again c =
    let at = c.before.before.before in
    let s = at.before.before in
    let l = at.before.loop-j in
    let rows = s.args.rows.now in
    let h = s.args.h in
    let kept = to_z-of_z {w = w64} {z = c.subtract.result} (sfits_of c.subtract.type_inv) in
    let less : c.subtract.result ≡ partly rows h (l.j + 1) l.j
    = rw (column-read at, cell-read at) at c.subtract.ensures ∙ column_dropped rows h l.j (omega arith) s.requires.0.1.1 ∙ sym (next rows h l.j) in
    (omega arith, rw (kept, less, l.invariant.1) (set_up_to (partly rows h l.j) (partly rows h (l.j + 1)) 16 l.j (omega (arith, s.requires.0.1.1)) (other rows h l.j)))

mul-diagonals : tie.Need-offset_bounds-diagonals-last invariant-loop decreases-loop
mul-diagonals c = omega (arith, c.before.before.requires.0.1.1)

element-set-of-diagonals : tie.Need-bounds-diagonals-last invariant-loop decreases-loop
element-set-of-diagonals c = omega (arith, c.before.before.requires.0.1.1)

returns : tie.Need-returns invariant-loop decreases-loop
returns c =
    let s = c.before.before in
    let rows = s.args.rows.now in
    let h = s.args.h in
    let e : c.before.loop-j.j ≡ h + 1 + 1 = omega arith in
    record {
      cells = cut_cells rows 0 h s.requires.0.0;
      outside = cut_outside rows 0 h;
      totals = (
        rw e at c.before.loop-j.invariant.1 ∙ up_to_ext _ _ 16 (λ r l. all_done rows h r),
        rw (s.requires.1.totals.1, diagonal_dropped rows h) (set_up_to (diagonal_total (cut_of rows 0 (h + 1))) (diagonal_total (cut_of rows 0 h)) 16 (h + 1) s.requires.0.1.1 (diagonal_other rows h)),
      );
    }

pub drop_diagonal_spec : {M : Type 1} → statement M
drop_diagonal_spec =
    tie.close
    (tie.spec
    invariant-loop
    decreases-loop
    add-last
    add-n
    loop-holds
    sub-i
    mul-subtract
    element-copy-out-subtract
    mul-subtract-2
    mul-subtract-3
    index-1-subtract
    index-2-subtract
    subtract-requires
    mul-t21
    element-set-from-columns
    add-j
    loop-less
    loop-again
    mul-diagonals
    element-set-of-diagonals
    returns)
