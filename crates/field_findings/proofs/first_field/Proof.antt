-- The loop's invariant: the fields before field m are in range (leading_stop, leading_all); a field is found by its place (Placed). Assumes nothing.
use mathlib.Core.Path.{◌≡◌, refl, sym, ap, ◌∙◌}
use mathlib.Core.Bool.{true}
use Prim.Native.Nat.{◌-◌, ◌≤◌, ◌<◌}
use native.Mathlib.Omega.{arith}
use Rattle.rules.specs.Lists.{up_to, below, every}
use Rattle.rules.specs.Record.{count_of, last_year_of}
use Rattle.laws.proofs.Lists.{every_next}
use Rattle.entries.proofs.Leading.{leading_all, leading_stop}
use Rattle.packing.proofs.Pack.{room}
use Rattle.opening.proofs.Opened.{WholeRecord, whole_record}
use Rattle.reading.specs.Reading.{RowInside}
use Rattle.field_findings.specs.Fields.{field_passes, first_field_of}
use Rattle.field_rows.specs.Rows.{passes_in}
use Rattle.field_findings.proofs.Placed.{held_inside, held_count, held_small, held_passes}
use borrow.Author.Rules.{rules}
use Rattle.field_findings.proofs.first_field.Statement.{statement}
use Rattle.field_findings.proofs.first_field.Tie as tie

abbrev invariant-loop : tie.invariant-loop-m
invariant-loop s k r row n m₀ m = (m ≤ n) × (every (field_passes s r) (below m) ≡ true)

abbrev decreases-loop : tie.decreases-loop-m
decreases-loop s k r row n m₀ m = n - m

-- the record has passed questions 1 and 2
is_whole : (c : tie.After-shared_slice_known-1 invariant-loop decreases-loop) → WholeRecord c.before.args.s.now
is_whole c = whole_record c.before.args.s.now (λ i. omega (arith, c.shared_slice_known-1.given i)) c.before.requires.0

row-of-requires : tie.Need-row_of-row-requires invariant-loop decreases-loop
row-of-requires c κs =
    let few = (is_whole c).few in
    (omega (arith, c.before.requires.1.0), (c.before.requires.1.1.0, c.before.requires.1.1.1))

loop-holds : tie.Need-loop-m-init invariant-loop decreases-loop
unfolding up_to every
loop-holds c = (omega arith, refl)

row_within : (c : tie.After-row_of-row invariant-loop decreases-loop) → RowInside c.before.before.args.s.now c.row_of-row.result.at c.row_of-row.result.bits c.row_of-row.result.count
row_within c =
    let p = c.before.before.requires.1 in
    held_inside (is_whole c.before) p.0 c.row_of-row.ensures p.1.1 p.1.0

mul-field : tie.Need-overflow_mul-row invariant-loop decreases-loop
mul-field c =
    let call = c.before.before.before in
    let inside = row_within call in
    let m = c.before.before.loop-m.m in
    let fits = room call.row_of-row.result.bits m call.row_of-row.result.count (omega arith) in
    search rules

add-field : tie.Need-overflow_add-row invariant-loop decreases-loop
add-field c =
    let call = c.before.before.before.before in
    let inside = row_within call in
    let m = c.before.before.before.loop-m.m in
    let fits = room call.row_of-row.result.bits m call.row_of-row.result.count (omega arith) in
    search rules

field-requires : tie.Need-field-requires invariant-loop decreases-loop
field-requires c κs =
    let call = c.before.before.before.before in
    let inside = row_within call in
    let m = c.before.before.before.loop-m.m in
    let fits = room call.row_of-row.result.bits m call.row_of-row.result.count (omega arith) in
    search rules

passes-requires : tie.Need-passes-requires invariant-loop decreases-loop
passes-requires c κs =
    let call = c.before.before.before.before.before in
    let p = call.before.before.requires.1 in
    rw c.field.ensures (held_small (is_whole call.before) p.0 call.row_of-row.ensures p.1.1 c.before.before.before.before.loop-m.m)

-- field m by what the test of its bits says
said : (c : tie.After-passes invariant-loop decreases-loop) → c.before.before.before.before.before.loop-m.m < c.before.before.before.before.before.before.row_of-row.result.count
    → field_passes c.before.before.before.before.before.before.before.before.args.s.now c.before.before.before.before.before.before.before.before.args.r c.before.before.before.before.before.loop-m.m
    ≡ c.passes.result
said c l =
    let call = c.before.before.before.before.before.before in
    let p = call.before.before.requires.1 in
    sym (held_passes (is_whole call.before) p.0 call.row_of-row.ensures p.1.1 c.before.before.before.before.before.loop-m.m l)
    ∙ (ap (passes_in call.row_of-row.result) (sym c.before.field.ensures) ∙ sym c.passes.ensures)

-- how many fields the row has
fields : (c : tie.After-row_of-row invariant-loop decreases-loop) → c.row_of-row.result.count ≡ count_of (last_year_of c.before.before.args.s.now) c.before.before.args.r
fields c =
    let p = c.before.before.requires.1 in
    held_count (is_whole c.before) p.0 c.row_of-row.ensures p.1.1

returns : tie.Need-returns-then-not-passes invariant-loop decreases-loop
unfolding first_field_of
returns c =
    let l = c.before.before.before.before.before.before.loop-m in
    let call = c.before.before.before.before.before.before.before in
    let a = call.before.before.args in
    let no = said c.before (omega arith) ∙ c.if-not-passes.true in
    sym (leading_stop (field_passes a.s.now a.r) (count_of (last_year_of a.s.now) a.r) l.m (omega (arith, fields call)) l.invariant.1 no)

loop-again : tie.Need-loop-m-preserved invariant-loop decreases-loop
loop-again c =
    let l = c.before.before.before.before.before.before.loop-m in
    let a = c.before.before.before.before.before.before.before.before.before.args in
    let ok = said c.before (omega arith) ∙ c.if-not-passes.false in
    (omega arith, every_next (field_passes a.s.now a.r) (λ m. m) l.m l.invariant.1 ok)

returns-2 : tie.Need-returns invariant-loop decreases-loop
unfolding first_field_of
returns-2 c =
    let l = c.before.loop-m in
    let call = c.before.before in
    let a = call.before.before.args in
    let e : l.m ≡ count_of (last_year_of a.s.now) a.r = omega (arith, fields call) in
    fields call ∙ sym (leading_all (field_passes a.s.now a.r) (count_of (last_year_of a.s.now) a.r) (rw e at l.invariant.1))

pub first_field_spec : {M : Type 1} → statement M
first_field_spec =
    tie.close
    (tie.spec
    invariant-loop
    decreases-loop
    row-of-requires
    loop-holds
    mul-field
    add-field
    field-requires
    passes-requires
    returns
    (λ c. search rules)
    (λ c. search rules)
    loop-again
    returns-2)
