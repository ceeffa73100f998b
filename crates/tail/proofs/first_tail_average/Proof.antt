-- The size of the average is the average, since no amount is below zero. Assumes nothing.
use mathlib.Core.Path.{◌≡◌, ap, ◌∙◌}
use borrow.Author.Rules.{rules, sfits_of}
use lib.IntN.{pos, nat_abs}
use mir.Syntax.{w64}
use mir.Facts.{to_z-of_z, to_z_pos}
use mir.Val.{to_z}
use native.Mathlib.Omega.{arith}
use Rattle.rules.specs.Tail.{first_tail_average}
use Rattle.tail.proofs.first_tail_average.Statement.{statement}
use Rattle.tail.proofs.first_tail_average.Tie as tie

-- the amount as a signed number
signed : (c : tie.Start) → to_z w64 c.args.tail ≡ pos c.args.tail
signed c = to_z_pos w64 {n = c.args.tail} (omega (arith, c.requires.0))

cast-average : tie.Need-overflow_cast-tail
cast-average c = search rules

element-copy-out-average : tie.Need-bounds-exposures-0
element-copy-out-average c = search rules

average-requires : tie.Need-average-requires
average-requires c κs =
    let s = c.before.before in
    (rw (signed s) s.requires.0, s.requires.1)

size-of-requires : tie.Need-size_of-requires
size-of-requires c κs = search rules

returns : tie.Need-returns
unfolding first_tail_average
returns c =
    let a = c.before in
    c.size_of.ensures ∙ ap nat_abs (to_z-of_z {w = w64} {z = a.average.result} (sfits_of a.average.type_inv) ∙ (rw (signed a.before.before.before) at a.average.ensures.0))

pub first_tail_average_spec : {M : Type 1} → statement M
first_tail_average_spec = tie.close (tie.spec cast-average element-copy-out-average average-requires size-of-requires returns)
