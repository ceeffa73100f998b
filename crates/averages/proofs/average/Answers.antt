-- `averages::average` meets its contract. The size 200 × |paid| + claims is divided by 2 × claims with the sign of `paid`; what is left over tells whether there
-- was a half, and the quotient's parity which neighbour is due (proofs/Rounding.antt). Assumes nothing.
use mathlib.Core.Path.{◌≡◌}
use lib.Dec.{lit≤}
use mir.Facts.{to_z-of_z}
use native.Mathlib.Omega.{arith}
use Rattle.laws.proofs.Signed.{size_fits, part_fits}
use Rattle.averages.proofs.Rounding.{away, quotient, divisor_fits, quotient_fits, quotient_room, apart_is, even_is, odd_is}
use Rattle.averages.proofs.average.Goals as goal
use Rattle.averages.proofs.average.Goals.{After-dividend-t}

-- the dividend that is held
divided : (c : After-dividend-t) → c.dividend-t.result ≡ away c.args.paid c.args.claims
divided c = rw (to_z-of_z c.ranges.paid) at c.dividend-t.ensures

pub overflow_mul-twice : goal.overflow_mul-twice
overflow_mul-twice c = let s = c in divisor_fits s.args.paid s.args.claims s.requires

pub nonzero_div-q : goal.nonzero_div-q
nonzero_div-q c = let s = c in quotient_fits s.args.paid s.args.claims s.requires c.dividend-t.result (divided (goal.at.nonzero_div-q c).After-dividend-t)

pub nonzero_rem-t : goal.nonzero_rem-t
nonzero_rem-t c = let s = c in quotient_fits s.args.paid s.args.claims s.requires c.dividend-t.result (divided (goal.at.nonzero_rem-t c).After-dividend-t)

pub returns-then-t-twice-ne0 : goal.returns-then-t-twice-ne0
returns-then-t-twice-ne0 c = let d = c in let s = d in apart_is s.args.paid s.args.claims s.requires d.dividend-t.result (divided (goal.at.returns-then-t-twice-ne0 c).After-dividend-t) c.if-t-twice-ne0.true

pub nonzero_rem-q : goal.nonzero_rem-q
nonzero_rem-q c = let d = c in let s = d in (lit≤ tt, part_fits (quotient d.dividend-t.result s.args.claims) _ (quotient_room s.args.paid s.args.claims s.requires d.dividend-t.result (divided (goal.at.nonzero_rem-q c).After-dividend-t)))

pub returns-then-q-eq0 : goal.returns-then-q-eq0
returns-then-q-eq0 c =
    let d = c in
    let s = d in
    even_is s.args.paid s.args.claims s.requires d.dividend-t.result (divided (goal.at.returns-then-q-eq0 c).After-dividend-t) c.if-t-twice-ne0.false c.if-q-eq0.true

pub returns : goal.returns
returns c =
    let z = c.toward_zero.result in
    let d = c in
    let s = d in
    let is =
    odd_is s.args.paid s.args.claims s.requires d.dividend-t.result (divided (goal.at.returns c).After-dividend-t) c.if-t-twice-ne0.false c.if-q-eq0.false z c.toward_zero.ensures in
    rw (to_z-of_z (size_fits z (omega (arith, is.1)))) is
