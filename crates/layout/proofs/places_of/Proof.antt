-- Each sum is the closed form of the place at which its row starts. Assumes nothing.
use mathlib.Core.Path.{◌≡◌}
use Prim.Native.Nat.{ℕ}
use native.Mathlib.Omega.{arith}
use borrow.Author.Rules.{rules}
use Rattle.rules.specs.Record.{cells, bit_count}
use Rattle.layout.specs.declared.Places.{Places}
use Rattle.layout.specs.Places.{start_of, places_of}
use Rattle.layout.proofs.RecordSizes.{starts}
use Rattle.layout.proofs.places_of.Statement.{statement}
use Rattle.layout.proofs.places_of.Tie as tie

-- numbers that are the places, one by one, make the places
of_places : {n a b d e f g h : ℕ} (k : ℕ)
    → n ≡ cells k → a ≡ start_of k 2 → b ≡ start_of k 3 → d ≡ start_of k 4 → e ≡ start_of k 5 → f ≡ start_of k 6 → g ≡ start_of k 7 → h ≡ bit_count k
    → ◌≡◌ {A = Places} (record { cells = n; increments = a; indices = b; reporting = d; weight = e; ulae = f; tail = g; end = h }) (places_of k)
unfolding places_of
of_places k p q r s t u v w = rw (p, q, r, s, t, u, v, w)

cells-of-requires : tie.Need-cells_of-cells-requires
cells-of-requires c κs = search rules

mul-increments : tie.Need-overflow_mul-increments
mul-increments c = search rules

add-increments : tie.Need-overflow_add-increments
add-increments c = search rules

mul-indices : tie.Need-overflow_mul-indices
mul-indices c = search rules

add-indices : tie.Need-overflow_add-indices
add-indices c = search rules

add-reporting-2 : tie.Need-overflow_add-reporting-2
add-reporting-2 c = search rules

mul-reporting : tie.Need-overflow_mul-reporting
mul-reporting c = search rules

add-reporting : tie.Need-overflow_add-reporting
add-reporting c = search rules

add-weight : tie.Need-overflow_add-weight
add-weight c = search rules

mul-weight : tie.Need-overflow_mul-weight
mul-weight c = search rules

add-weight-2 : tie.Need-overflow_add-weight-2
add-weight-2 c = search rules

add-ulae : tie.Need-overflow_add-ulae
add-ulae c = search rules

add-tail : tie.Need-overflow_add-tail
add-tail c = search rules

mul-tail : tie.Need-overflow_mul-tail
mul-tail c = search rules

add-tail-2 : tie.Need-overflow_add-tail-2
add-tail-2 c = search rules

add-end : tie.Need-overflow_add-end
add-end c = search rules

returns : tie.Need-returns
returns c =
    let s = starts c.before.args.k in
    of_places c.before.args.k c.cells_of-cells.ensures.0 (omega arith) (omega arith) (omega arith) (omega arith) (omega arith) (omega arith) (omega arith)

pub places_of_spec : {M : Type 1} → statement M
places_of_spec =
    tie.close
    (tie.spec
    cells-of-requires
    mul-increments
    add-increments
    mul-indices
    add-indices
    add-reporting
    mul-reporting
    add-reporting-2
    add-weight
    mul-weight
    add-weight-2
    add-ulae
    add-tail
    mul-tail
    add-tail-2
    add-end
    returns)
