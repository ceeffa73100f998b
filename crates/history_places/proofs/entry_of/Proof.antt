-- The place is below 1,617 (entry_inside). Assumes nothing.
use mir.Syntax.{w64}
use native.Mathlib.Omega.{arith}
use mir.Facts.{to_z-of_z}
use borrow.Author.Rules.{rules, sfits_of}
use Rattle.history_places.specs.Places.{position_entry}
use Rattle.history_places.proofs.Inside.{entry_inside}
use Rattle.history_places.proofs.entry_of.Statement.{statement}
use Rattle.history_places.proofs.entry_of.Tie as tie

mul-result-2 : tie.Need-overflow_mul-result-2
mul-result-2 c = record { fits = omega (arith, entry_inside c.args.width c.args.a c.args.e c.requires.0 c.requires.1) }

add-result-2 : tie.Need-overflow_add-result-2
add-result-2 c = record { fits = omega (arith, entry_inside c.args.width c.args.a c.args.e c.requires.0 c.requires.1) }

mul-result-3 : tie.Need-offset_bounds-list-a
mul-result-3 c = record { fits = omega (arith, entry_inside c.args.width c.args.a c.args.e c.requires.0 c.requires.1) }

element-copy-out-result : tie.Need-bounds-list-a
element-copy-out-result c = entry_inside c.args.width c.args.a c.args.e c.requires.0 c.requires.1

returns : tie.Need-returns
unfolding position_entry
returns c = to_z-of_z {w = w64} (sfits_of c.result-1.given)

pub entry_of_spec : {M : Type 1} → statement M
entry_of_spec =
    tie.close
    (tie.spec
    (λ c. search rules)
    (λ c. search rules)
    mul-result-2
    add-result-2
    mul-result-3
    element-copy-out-result
    returns)
