-- The end of the places is the bits of the record, at most 6370. Assumes nothing.
use mathlib.Core.Path.{ap}
use native.Mathlib.Omega.{arith}
use borrow.Author.Rules.{rules}
use Rattle.rules.specs.Record.{byte_count}
use Rattle.layout.specs.declared.Places.{Places}
use Rattle.layout.specs.Places.{places_of}
use Rattle.layout.proofs.RecordSizes.{bits_most}
use Rattle.layout.proofs.bytes_of.Statement.{statement}
use Rattle.layout.proofs.bytes_of.Tie as tie

places-of-requires : tie.Need-places_of-requires
places-of-requires c κs = search rules

add-result : tie.Need-overflow_add-result
unfolding places_of
add-result c =
    let k = c.before.before.args.k in
    omega (arith, bits_most k c.before.before.requires, ap (λ (p : Places). p.end) c.before.places_of.ensures)

returns : tie.Need-returns
unfolding places_of byte_count
returns c =
    let k = c.before.before.args.k in
    omega (arith, bits_most k c.before.before.requires, ap (λ (p : Places). p.end) c.before.places_of.ensures)

pub bytes_of_spec : {M : Type 1} → statement M
bytes_of_spec = tie.close (tie.spec places-of-requires add-result returns)
