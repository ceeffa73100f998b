-- One digit more, and none left. Assumes nothing.
use mathlib.Core.Path.{refl}
use native.Mathlib.Omega.{arith}
use Rattle.rate_text.proofs.RateText.{bits_sixteen, bits_digit, bits_more, bits_end, bits_below, bits_fit}
use Rattle.rate_text.proofs.bits_of.Goals as goal

pub loop-b-init : goal.loop-b-init
loop-b-init c = (omega arith, refl)

pub overflow_mul-bits : goal.overflow_mul-bits
overflow_mul-bits c =
    let l = c.loop-b in
    omega (arith, bits_fit l.bits l.b-index 0 l.invariant.0 (omega arith) (omega (arith, bits_sixteen c.args.word.now c.requires)))

pub hex_digit-requires : goal.hex_digit-requires
hex_digit-requires c = bits_digit c.args.word.now c.requires c.loop-b.b-index (omega arith)

pub overflow_add-bits : goal.overflow_add-bits
overflow_add-bits c =
    let l = c.loop-b in
    omega (arith, bits_fit l.bits l.b-index c.hex_digit.result l.invariant.0 c.hex_digit.ensures.1 (omega (arith, bits_sixteen c.args.word.now c.requires)))

pub loop-b-preserved : goal.loop-b-preserved
loop-b-preserved c =
    let l = c.loop-b in
    let d = c.hex_digit in
    (bits_below l.bits l.b-index d.result l.invariant.0 d.ensures.1, bits_more c.args.word.now l.b-index l.bits d.result (omega arith) l.invariant.1 d.ensures.0)

pub returns : goal.returns
returns c = bits_end c.args.word.now c.loop-b.b-index c.loop-b.bits (omega arith) c.loop-b.invariant.1
