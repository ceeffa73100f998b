-- Both numbers are far below 2^63. Assumes nothing.
use borrow.Author.Rules.{rules, sfits_of}
use mathlib.Core.Path.{◌≡◌, ap}
use native.Mathlib.Omega.{arith}
use Prim.Native.Nat.{ℕ, ◌<◌, ◌^◌}
use lib.IntN.{pos, ◌-ℤ◌}
use mir.Syntax.{w64}
use mir.Facts.{to_z-of_z}
use mir.ValLaws.{to_z_pos}
use Rattle.signed_sums.proofs.Sums.{difference_size}
use Rattle.hindsight_gaps.proofs.gap_of.Statement.{statement}
use Rattle.hindsight_gaps.proofs.gap_of.Tie as tie

payment-requires : tie.Need-payment-forecast-requires
payment-requires c κs = search rules

cast-subtract : tie.Need-overflow_cast-forecast
cast-subtract c = search rules

subtract-requires : tie.Need-subtract-requires
subtract-requires c κs =
    let s = c.before in
    let small : c.payment-forecast.result < 2 ^ 63 = omega (arith, c.payment-forecast.ensures.1) in
    rw (to_z-of_z s.ranges.paid, to_z_pos w64 _ small) (omega (arith, s.requires.0), omega (arith, c.payment-forecast.ensures.1))

returns : tie.Need-returns
returns c =
    let s = c.before.before in
    let forecast = c.before.payment-forecast in
    let small : forecast.result < 2 ^ 63 = omega (arith, forecast.ensures.1) in
    let gap : c.subtract.result ≡ s.args.paid -ℤ pos forecast.result
    = rw (to_z-of_z s.ranges.paid, to_z_pos w64 _ small) at c.subtract.ensures in
    let kept = to_z-of_z {w = w64} {z = c.subtract.result} (sfits_of c.subtract.type_inv) in
    rw (kept, gap) (
      ap (λ (y : ℕ). s.args.paid -ℤ pos y) forecast.ensures.0,
      omega (arith, difference_size s.args.paid (pos forecast.result), s.requires.0, forecast.ensures.1),
    )

pub gap_of_spec : {M : Type 1} → statement M
gap_of_spec = tie.close (tie.spec payment-requires cast-subtract subtract-requires returns)
