-- The loop's invariant: the rows before row r are in range, row 0 among them, which is k (Named). Assumes nothing.
use mathlib.Core.Path.{◌≡◌, sym}
use mathlib.Core.Bool.{true, false}
use mathlib.Core.List.{List}
use Prim.Native.Nat.{ℕ, ◌-◌, ◌≤◌, ◌<◌}
use native.Mathlib.Omega.{arith}
use Rattle.rules.specs.Lists.{up_to, below, every}
use Rattle.rules.specs.Record.{count_of, last_year_of}
use Rattle.laws.proofs.Lists.{every_next, fails_at}
use Rattle.entries.proofs.Leading.{leading_all, leading_stop}
use Rattle.reasons.proofs.Counted.{counted, all_pass}
use Rattle.opening.proofs.Opened.{WholeRecord, whole_record}
use Rattle.field_findings.specs.Fields.{field_passes, row_in_range, first_row, first_field_of}
use Rattle.field_findings.proofs.Placed.{held_count}
use Rattle.field_findings.proofs.Named.{years_pass}
use borrow.Author.Rules.{rules}
use Rattle.field_findings.proofs.first_row.Statement.{statement}
use Rattle.field_findings.proofs.first_row.Tie as tie

abbrev invariant-loop : tie.invariant-loop-r
invariant-loop s k r₀ r = (1 ≤ r) × ((r ≤ 8) × (every (row_in_range s) (below r) ≡ true))

abbrev decreases-loop : tie.decreases-loop-r
decreases-loop s k r₀ r = 8 - r

-- a row whose first field out of range is one of its fields, and one of which it is not
row_no : (s : List ℕ) (r : ℕ) → first_field_of s r < count_of (last_year_of s) r → row_in_range s r ≡ false
unfolding first_field_of row_in_range
row_no s r l =
    let n = count_of (last_year_of s) r in
    fails_at (field_passes s r) (λ m. m) n (first_field_of s r) l ((counted (field_passes s r) n).stop l)

row_yes : (s : List ℕ) (r : ℕ) → count_of (last_year_of s) r ≤ first_field_of s r → row_in_range s r ≡ true
unfolding first_field_of row_in_range
row_yes s r l =
    let n = count_of (last_year_of s) r in
    all_pass (field_passes s r) n (omega (arith, (counted (field_passes s r) n).most))

-- the record has passed questions 1 and 2
is_whole : (c : tie.After-shared_slice_known-1 invariant-loop decreases-loop) → WholeRecord c.before.args.s.now
is_whole c = whole_record c.before.args.s.now (λ i. omega (arith, c.shared_slice_known-1.given i)) c.before.requires.0

loop-holds : tie.Need-loop-r-init invariant-loop decreases-loop
unfolding up_to every
loop-holds c = (omega arith, (omega arith, rw (years_pass c.before.args.s.now (is_whole c))))

first-field-requires : tie.Need-first_field-requires invariant-loop decreases-loop
first-field-requires c κs =
    let start = c.before.before.before in
    (start.requires.0, (start.requires.1, (c.before.loop-r.invariant.0, omega arith)))

row-of-requires : tie.Need-row_of-requires invariant-loop decreases-loop
row-of-requires c κs =
    let few = (is_whole c.before.before.before).few in
    (omega (arith, c.before.before.before.before.requires.1), (c.before.before.loop-r.invariant.0, omega arith))

-- how many fields row r has
fields : (c : tie.After-row_of invariant-loop decreases-loop) → c.before.before.before.loop-r.r < 8
    → c.row_of.result.count ≡ count_of (last_year_of c.before.before.before.before.before.args.s.now) c.before.before.before.loop-r.r
fields c l =
    let at = c.before.before.before.before in
    held_count (is_whole at) at.before.requires.1 c.row_of.ensures l

returns : tie.Need-returns-then-first_field-row_of invariant-loop decreases-loop
unfolding first_row
returns c =
    let call = c.before.before in
    let l = call.before.before.before.loop-r in
    let s = call.before.before.before.before.before.args.s.now in
    let no = row_no s l.r (omega (arith, c.if-first_field-row_of.true, fields call (omega arith), call.before.first_field.ensures)) in
    sym (leading_stop (row_in_range s) 8 l.r (omega arith) l.invariant.1.1 no)

loop-again : tie.Need-loop-r-preserved invariant-loop decreases-loop
loop-again c =
    let call = c.before.before in
    let l = call.before.before.before.loop-r in
    let s = call.before.before.before.before.before.args.s.now in
    let ok = row_yes s l.r (omega (arith, c.if-first_field-row_of.false, fields call (omega arith), call.before.first_field.ensures)) in
    (omega arith, (omega arith, every_next (row_in_range s) (λ r. r) l.r l.invariant.1.1 ok))

returns-2 : tie.Need-returns invariant-loop decreases-loop
unfolding first_row
returns-2 c =
    let l = c.before.loop-r in
    let s = c.before.before.before.args.s.now in
    let e : l.r ≡ 8 = omega arith in
    sym (leading_all (row_in_range s) 8 (rw e at l.invariant.1.1))

pub first_row_spec : {M : Type 1} → statement M
first_row_spec =
    tie.close
    (tie.spec
    invariant-loop
    decreases-loop
    loop-holds
    first-field-requires
    row-of-requires
    returns
    (λ c. search rules)
    (λ c. search rules)
    loop-again
    returns-2)
