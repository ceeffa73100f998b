-- All are far below 2^63. Assumes nothing.
use mir.Syntax.{w64}
use mathlib.Core.Path.{◌≡◌, ap₂, ◌∙◌}
use native.Mathlib.Omega.{arith}
use lib.IntN.{ℤ, ◌+ℤ◌, ◌-ℤ◌}
use mir.Facts.{to_z-of_z}
use borrow.Author.Rules.{sfits_of}
use Rattle.signed_sums.proofs.Sums.{difference_size}
use Rattle.triangle_findings.proofs.next_corner.Statement.{statement}
use Rattle.triangle_findings.proofs.next_corner.Tie as tie

subtract-requires : tie.Need-subtract-requires
subtract-requires c κs = rw (to_z-of_z c.ranges.t, to_z-of_z c.ranges.d) (omega (arith, c.requires.0), omega (arith, c.requires.1.0))

add-requires : tie.Need-add-requires
add-requires c κs =
    let s = c.before in
    let e : c.subtract.result ≡ s.args.t -ℤ s.args.d = c.subtract.ensures ∙ ap₂ (λ (a b : ℤ). a -ℤ b) (to_z-of_z s.ranges.t) (to_z-of_z s.ranges.d) in
    rw (to_z-of_z {w = w64} (sfits_of c.subtract.type_inv), to_z-of_z s.ranges.v, e) (omega (arith, difference_size s.args.t s.args.d, s.requires.0, s.requires.1.0), omega (arith, s.requires.1.1))

returns : tie.Need-returns
returns c =
    let s = c.before.before in
    let e : c.before.subtract.result ≡ s.args.t -ℤ s.args.d = c.before.subtract.ensures ∙ ap₂ (λ (a b : ℤ). a -ℤ b) (to_z-of_z s.ranges.t) (to_z-of_z s.ranges.d) in
    to_z-of_z {w = w64} (sfits_of c.add.type_inv) ∙ c.add.ensures ∙ ap₂ (λ (a b : ℤ). a +ℤ b) (to_z-of_z {w = w64} (sfits_of c.before.subtract.type_inv) ∙ e) (to_z-of_z s.ranges.v)

pub next_corner_spec : {M : Type 1} → statement M
next_corner_spec = tie.close (tie.spec subtract-requires add-requires returns)
