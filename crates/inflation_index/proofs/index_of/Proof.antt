-- Where the comparisons go, the nearest whole number is what is returned. Assumes nothing.
use Rattle.std.proofs.Common.{◌≡◌, ℕ, ◌+◌, ◌^◌, ◌<◌, ◌≤◌, Bool, true, false, cond, T, pos, sym, subst, inl, inr, arith, le→leb, rules}
use lib.Ieee.{of_bits, neg, in_float, lt, add, of_int, binary64}
use Rattle.rules.specs.Record.{most_index}
use Rattle.rules.specs.Inflation.{half, nearest_whole}
use Rattle.inflation_index.specs.Index.{if_an_index}
use Rattle.inflation_index.proofs.Whole.{middle_value, not_above, not_below, large, found}
use Rattle.inflation_index.proofs.Index.{an_index, no_index}
use Rattle.inflation_index.proofs.index_of.Statement.{statement}
use Rattle.inflation_index.proofs.index_of.Tie as tie

truncating-f64-to-u64-requires : tie.Need-truncating_f64_to_u64-whole-requires
unfolding of_bits neg
truncating-f64-to-u64-requires c κs = (subst T (sym c.before.if-x.true) tt, subst T (sym c.if-x-2.true) tt)

int-to-float-middle : tie.Need-int_to_float-middle
unfolding in_float
int-to-float-middle c = le→leb c.before.before.truncating_f64_to_u64-whole.result (2 ^ 53) (omega arith)

-- what the tests have shown where the truncated number is at most 5,000,000
nearest : (c : tie.After-row_known-1) → nearest_whole c.before.before.before.before.before.args.x ≡ cond (lt c.before.before.before.before.before.args.x (add binary64 (of_int binary64 (pos c.before.before.truncating_f64_to_u64-whole.result)) half)) c.before.before.truncating_f64_to_u64-whole.result (c.before.before.truncating_f64_to_u64-whole.result + 1)
unfolding of_bits neg
nearest c =
    let t = c.before.before.truncating_f64_to_u64-whole.result in
    found c.before.before.before.before.before.args.x (add binary64 (of_int binary64 (pos t)) half) t c.before.before.before.before.if-x.true c.before.before.before.if-x-2.true c.before.before.truncating_f64_to_u64-whole.ensures (omega arith) (middle_value t (omega arith))

below : (w t : ℕ) (b : Bool) → w ≡ cond b t (t + 1) → b ≡ true → t ≤ most_index → t ≡ if_an_index w
below w t b e g h = rw (e, g) (sym (an_index t h))

above : (w t : ℕ) (b : Bool) → w ≡ cond b t (t + 1) → b ≡ false → t < most_index → t + 1 ≡ if_an_index w
above w t b e g h = rw (e, g) (sym (an_index (t + 1) (omega arith)))

past : (w t : ℕ) (b : Bool) → w ≡ cond b t (t + 1) → b ≡ false → most_index ≤ t → 0 ≡ if_an_index w
past w t b e g h = rw (e, g) (sym (no_index (t + 1) (inr (omega arith))))

returns : tie.Need-returns-then-x-middle
unfolding of_bits
returns c = below _ _ _ (nearest c.before) c.if-x-middle.true (omega arith)

add-result : tie.Need-overflow_add-result
add-result c = search rules

returns-2 : tie.Need-returns-then-whole-lt-MOST_INDEX
unfolding of_bits
returns-2 c = above _ _ _ (nearest c.before.before) c.before.if-x-middle.false (omega arith)

returns-3 : tie.Need-returns-else-whole-lt-MOST_INDEX
unfolding of_bits
returns-3 c = past _ _ _ (nearest c.before.before) c.before.if-x-middle.false (omega arith)

returns-4 : tie.Need-returns-else-whole-le-MOST_INDEX
returns-4 c = sym (no_index (nearest_whole c.before.before.before.before.args.x) (large c.before.before.before.before.args.x (omega arith)))

returns-5 : tie.Need-returns-else-x-2
unfolding of_bits
returns-5 c = sym (no_index (nearest_whole c.before.before.args.x) (not_below c.before.before.args.x c.if-x-2.false))

returns-6 : tie.Need-returns-else-x
unfolding of_bits neg
returns-6 c = sym (no_index (nearest_whole c.before.args.x) (inl (not_above c.before.args.x c.if-x.false)))

pub index_of_spec : {M : Type 1} → statement M
index_of_spec =
    tie.close
    (tie.spec
    truncating-f64-to-u64-requires
    int-to-float-middle
    returns
    add-result
    returns-2
    returns-3
    returns-4
    returns-5
    returns-6)
