-- The whole part, the sign and, where there are decimals, the point. Assumes nothing.
use mir.Facts.{to_z-of_z}
use native.Mathlib.Omega.{arith}
use mathlib.Core.Path.{◌≡◌}
use lib.ListN.{length}
use lib.IntN.{nat_abs}
use Rattle.composing.specs.Text.{decimal, sign, without}
use Rattle.composing.proofs.Decimals.{length_whole, length_fixed, length_most, length_sign}
use borrow.Author.Rules.{rules}
use Rattle.number_lengths.proofs.front_length.Statement.{statement}
use Rattle.number_lengths.proofs.front_length.Tie as tie

size-of-requires : tie.Need-size_of-requires
size-of-requires c κs = search rules

shortened-requires : tie.Need-shortened-requires
shortened-requires c κs = search rules

decimal-length-requires : tie.Need-decimal_length-requires
decimal-length-requires c κs = search rules

sign-length-requires : tie.Need-sign_length-requires
sign-length-requires c κs = search rules

add-n : tie.Need-overflow_add-n
add-n c =
    let e : c.before.decimal_length.result ≡ length (decimal c.before.before.shortened.result) = c.before.decimal_length.ensures in
    let g : c.sign_length.result ≡ length (sign c.before.before.before.before.args.z) = rw (to_z-of_z c.before.before.before.before.ranges.z) at c.sign_length.ensures in
    record { fits = omega (arith, length_most c.before.before.shortened.result, length_sign c.before.before.before.before.args.z) }

add-result : tie.Need-overflow_add-result
add-result c =
    let e : c.before.before.decimal_length.result ≡ length (decimal c.before.before.before.shortened.result) = c.before.before.decimal_length.ensures in
    let g : c.before.sign_length.result ≡ length (sign c.before.before.before.before.before.args.z) = rw (to_z-of_z c.before.before.before.before.before.ranges.z) at c.before.sign_length.ensures in
    record { fits = omega (arith, length_most c.before.before.before.shortened.result, length_sign c.before.before.before.before.before.args.z) }

returns : tie.Need-returns-then-d-eq0
returns c =
    let d = c.before.before.before.before.before.args.d in
    let z = c.before.before.before.before.before.args.z in
    let kept = to_z-of_z c.before.before.before.before.before.ranges.z in
    let n : c.before.before.before.before.size_of.result ≡ nat_abs z = rw kept at c.before.before.before.before.size_of.ensures in
    let w : c.before.before.before.shortened.result ≡ without d (nat_abs z) = rw n at c.before.before.before.shortened.ensures in
    let e : c.before.before.decimal_length.result ≡ length (decimal (without d (nat_abs z))) = rw w at c.before.before.decimal_length.ensures in
    let g : c.before.sign_length.result ≡ length (sign z) = rw kept at c.before.sign_length.ensures in
    (omega (arith, length_whole d z c.if-d-eq0.true), omega (arith, length_most (without d (nat_abs z)), length_sign z))

returns-2 : tie.Need-returns-else-d-eq0
returns-2 c =
    let d = c.before.before.before.before.before.args.d in
    let z = c.before.before.before.before.before.args.z in
    let kept = to_z-of_z c.before.before.before.before.before.ranges.z in
    let n : c.before.before.before.before.size_of.result ≡ nat_abs z = rw kept at c.before.before.before.before.size_of.ensures in
    let w : c.before.before.before.shortened.result ≡ without d (nat_abs z) = rw n at c.before.before.before.shortened.ensures in
    let e : c.before.before.decimal_length.result ≡ length (decimal (without d (nat_abs z))) = rw w at c.before.before.decimal_length.ensures in
    let g : c.before.sign_length.result ≡ length (sign z) = rw kept at c.before.sign_length.ensures in
    (omega (arith, length_fixed d z c.if-d-eq0.false), omega (arith, length_most (without d (nat_abs z)), length_sign z))

pub front_length_spec : {M : Type 1} → statement M
front_length_spec =
    tie.close
    (tie.spec
    size-of-requires
    shortened-requires
    decimal-length-requires
    sign-length-requires
    add-n
    add-result
    returns
    returns-2)
