-- Part by part: the place by the row, and the figures by the row's kind (Placed). Assumes nothing.
use mathlib.Core.Path.{◌≡◌, ap, ◌∙◌}
use mathlib.Core.List.{List}
use Prim.Native.Nat.{ℕ, ◌+◌, ◌*◌, ◌≤◌, ◌<◌}
use native.Mathlib.Omega.{arith}
use lib.IntN.{ℤ, pos}
use mir.Syntax.{w64}
use mir.Facts.{to_z-of_z}
use mir.ValLaws.{to_z_pos}
use Rattle.rules.specs.Record.{value_of, last_year_of}
use Rattle.packing.proofs.Pack.{room}
use Rattle.opening.proofs.Opened.{WholeRecord, whole_record}
use Rattle.reading.specs.Reading.{RowInside}
use Rattle.finding.specs.Places.{found}
use Rattle.field_spots.specs.declared.Spot.{Spot}
use Rattle.field_spots.specs.Spots.{spot_of}
use Rattle.field_rows.specs.Rows.{kind_of}
use Rattle.field_findings.specs.Fields.{code_at, least_of, finding_at}
use Rattle.field_findings.proofs.Placed.{held_inside, held_count, held_small, held_code, held_value, held_least, held_most, held_limits}
use borrow.Author.Rules.{rules, sfits_of}
use Rattle.field_findings.proofs.finding_at.Statement.{statement}
use Rattle.field_findings.proofs.finding_at.Tie as tie

-- parts that are those of the finding, one by one
of_parts : (s : List ℕ) (k r m : ℕ) {p : Spot} {a b z : ℤ} → k ≡ last_year_of s → p ≡ spot_of k r m → a ≡ value_of (kind_of (last_year_of s) r) (code_at s r m) → b ≡ least_of (kind_of (last_year_of s) r)
    → z ≡ pos (kind_of (last_year_of s) r).most → found (4 + r) p.row p.column a b z ≡ finding_at s r m
unfolding finding_at
of_parts s k r m y e f g h = rw (e, f, g, h, y)

-- the record has passed questions 1 and 2
is_whole : (c : tie.After-shared_slice_known-1) → WholeRecord c.before.args.s.now
is_whole c = whole_record c.before.args.s.now (λ i. omega (arith, c.shared_slice_known-1.given i)) c.before.requires.0

row-of-requires : tie.Need-row_of-row-requires
row-of-requires c κs =
    let few = (is_whole c).few in
    let p = c.before.requires.1 in
    (omega (arith, p.0), (p.1.0, p.1.1.0))

-- the row holds field m, and lies within the record
row_within : (c : tie.After-row_of-row) → RowInside c.before.before.args.s.now c.row_of-row.result.at c.row_of-row.result.bits c.row_of-row.result.count
row_within c =
    let p = c.before.before.requires.1 in
    held_inside (is_whole c.before) p.0 c.row_of-row.ensures p.1.1.0 p.1.0

has-field : (c : tie.After-row_of-row) → c.before.before.args.m < c.row_of-row.result.count
has-field c =
    let p = c.before.before.requires.1 in
    rw (held_count (is_whole c.before) p.0 c.row_of-row.ensures p.1.1.0, ← p.0) p.1.1.1

fits : (c : tie.After-row_of-row) → c.row_of-row.result.bits * c.before.before.args.m + c.row_of-row.result.bits ≤ c.row_of-row.result.bits * c.row_of-row.result.count
fits c = room c.row_of-row.result.bits c.before.before.args.m c.row_of-row.result.count (has-field c)

mul-field : tie.Need-overflow_mul-row
mul-field c =
    let inside = row_within c.before in
    let last = fits c.before in
    search rules

add-field : tie.Need-overflow_add-row
add-field c =
    let inside = row_within c.before.before in
    let last = fits c.before.before in
    search rules

field-requires : tie.Need-field-code-requires
field-requires c κs =
    let inside = row_within c.before.before in
    let last = fits c.before.before in
    search rules

spot-of-requires : tie.Need-spot_of-place-requires
spot-of-requires c κs =
    let start = c.before.before.before.before.before in
    let few = (is_whole c.before.before.before.before).few in
    (omega (arith, start.requires.1.0), start.requires.1.1.1.1)

value-requires : tie.Need-value-requires
value-requires c κs =
    let call = c.before.before.before.before in
    let p = call.before.before.requires.1 in
    rw c.before.field-code.ensures (held_small (is_whole call.before) p.0 call.row_of-row.ensures p.1.1.0 call.before.before.args.m)

limits : (c : tie.After-row_of-row) → (c.row_of-row.result.least < 9223372036854775808) × (c.row_of-row.result.most < 9223372036854775808)
limits c =
    let p = c.before.before.requires.1 in
    held_limits (is_whole c.before) p.0 c.row_of-row.ensures p.1.1.0

least-value-requires : tie.Need-least_value-requires
least-value-requires c κs = limits c.before.before.before.before.before

cast-t14 : tie.Need-overflow_cast-result
cast-t14 c = record { sfits = (limits c.before.before.before.before.before.before.before).1 }

returns : tie.Need-returns
returns c =
    let spot = c.before.before.before in
    let call = spot.before.before.before.before in
    let start = call.before.before in
    let whole = is_whole call.before in
    let p = start.requires.1 in
    let row = call.row_of-row in
    let value = c.before.before.value in
    let least = c.before.least_value in
    of_parts start.args.s.now start.args.k start.args.r start.args.m p.0 spot.spot_of-place.ensures
    (to_z-of_z {w = w64} {z = value.result} (sfits_of value.type_inv)
    ∙ (value.ensures ∙ (held_value whole p.0 row.ensures p.1.1.0 spot.before.field-code.result
    ∙ ap (value_of (kind_of (last_year_of start.args.s.now) start.args.r)) (spot.before.field-code.ensures ∙ held_code whole p.0 row.ensures p.1.1.0 start.args.m (has-field call)))))
    (to_z-of_z {w = w64} {z = least.result} (sfits_of least.type_inv) ∙ (least.ensures ∙ held_least whole p.0 row.ensures p.1.1.0))
    (to_z_pos w64 row.result.most (limits call).1 ∙ ap pos (held_most whole p.0 row.ensures p.1.1.0))

pub finding_at_spec : {M : Type 1} → statement M
finding_at_spec =
    tie.close
    (tie.spec
    row-of-requires
    mul-field
    add-field
    field-requires
    spot-of-requires
    (λ c. search rules)
    value-requires
    least-value-requires
    cast-t14
    returns)
