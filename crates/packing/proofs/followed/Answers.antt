-- A field of whole bytes with one byte more; before it the number is below 2 ^ 56. Assumes nothing.
use mathlib.Core.Path.{◌≡◌, sym}
use mathlib.Core.List.{List}
use Prim.Native.Nat.{ℕ, ◌+◌, ◌*◌, ◌^◌, ◌%◌, ◌≤◌, ◌<◌}
use native.Mathlib.Nat.{lt_of_lt_of_le, pow-le-pow_right}
use native.Mathlib.Omega.{arith}
use lib.Dec.{lit<}
use lib.ListN.{length, get_or}
use lib.Pow.{shl_exact}
use Rattle.rules.specs.Packing.{Fit}
use Rattle.packing.specs.Field.{field_at}
use Rattle.packing.proofs.Pack.{field_lt}
use Rattle.packing.proofs.BitPlaces.{byte_more}
use Rattle.packing.proofs.followed.Goals as goal

module _ (s : List ℕ) (i n x : ℕ) (few : n < 8) (e : x ≡ field_at s (8 * i) (8 * n)) where
  -- moved up by a byte, the number loses no bit
  small : x < 2 ^ 56
  small =
      let few_bits : 8 * n ≤ 56 = omega arith in
      rw e (lt_of_lt_of_le (field_lt s (8 * i) (8 * n)) (pow-le-pow_right (lit< tt) few_bits))

  moved : x * 2 ^ 8 % 2 ^ 64 ≡ x * 256
  moved = shl_exact 56 8 64 small (omega arith)

  more : (y : ℕ) → Fit 8 s → i + n < length s → y ≡ get_or s (i + n) 0 → x * 2 ^ 8 % 2 ^ 64 + y ≡ field_at s (8 * i) (8 * n + 8)
  more y b h q = rw (moved, q, e) (sym (byte_more s i n b h))

pub overflow_add-result : goal.overflow_add-result
overflow_add-result c = omega (arith, c.from.type_inv, c.type_inv.s (c.args.i + c.args.n), small c.args.s.now c.args.i c.args.n c.args.x c.requires.1.0 c.requires.1.1)

pub returns : goal.returns
returns c = more c.args.s.now c.args.i c.args.n c.args.x c.requires.1.0 c.requires.1.1 _ (λ k. (c.type_inv.s k).fits) c.requires.0 c.from.ensures
