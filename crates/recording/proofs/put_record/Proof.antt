-- `recording::put_record` meets its contract: after each call one row more is packed, and the filling bits end the record. Assumes nothing.
use borrow.Author.Rules.{rules}
use native.Mathlib.Omega.{arith}
use mathlib.Core.Path.{◌≡◌, ap, ◌∙◌}
use lib.Dec.{lit≤}
use lib.Pow.{pow_pos}
use Rattle.rules.specs.Record.{Figures, figures, bit_count}
use Rattle.layout.specs.declared.Places.{Places}
use Rattle.layout.specs.Places.{places_of}
use Rattle.packing.proofs.Puts.{packed_then}
use Rattle.recording.proofs.RowsGiven.{few_years, ranges_hold, ranges_fit}
use Rattle.recording.proofs.Recorded.{FirstRows, packed_one, no_rows, ready, Fills, fills, recorded}
use Rattle.recording.proofs.put_record.Statement.{statement}
use Rattle.recording.proofs.put_record.Tie as tie

-- what the function is given
abbrev from : tie.Start → Figures
from s =
    figures s.args.k s.args.exposures.now s.args.increments.now s.args.indices.now s.args.reporting.now s.args.weight s.args.ulae.now s.args.tail

-- where it starts, from the end of each row
abbrev start-1 : tie.After-put-a → tie.Start
start-1 c = c.before.before.before.before.before.before.before

abbrev start-2 : tie.After-put_row-b → tie.Start
start-2 c = start-1 c.before.before.before.before

abbrev start-3 : tie.After-put_increments-c → tie.Start
start-3 c = start-2 c.before.before.before.before

abbrev start-4 : tie.After-put_row-d → tie.Start
start-4 c = start-3 c.before.before.before.before

abbrev start-5 : tie.After-put_row-e → tie.Start
start-5 c = start-4 c.before.before.before.before

abbrev start-6 : tie.After-put-f → tie.Start
start-6 c = start-5 c.before.before.before.before

abbrev start-7 : tie.After-put_row-g → tie.Start
start-7 c = start-6 c.before.before.before.before

abbrev start-8 : tie.After-put-h → tie.Start
start-8 c = start-7 c.before.before.before.before

-- the rows that are packed at the end of each row
rows-1 : (c : tie.After-put-a) → FirstRows (from (start-1 c)) 1 (start-1 c).args.buffer.now c.put-a.new.buffer c.put-a.result
rows-1 c =
    let s = start-1 c in
    record { long = c.put-a.auto.buffer; packed = packed_then (no_rows (from s) s.args.buffer.now s.requires).packed (packed_one c.put-a.ensures) }

rows-2 : (c : tie.After-put_row-b) → FirstRows (from (start-2 c)) 2 (start-2 c).args.buffer.now c.put_row-b.new.buffer c.put_row-b.result
rows-2 c =
    let d = rows-1 c.before.before.before.before in
    record { long = c.put_row-b.auto.buffer ∙ d.long; packed = packed_then d.packed c.put_row-b.ensures }

rows-3 : (c : tie.After-put_increments-c) → FirstRows (from (start-3 c)) 3 (start-3 c).args.buffer.now c.put_increments-c.new.buffer c.put_increments-c.result
rows-3 c =
    let d = rows-2 c.before.before.before.before in
    record { long = c.put_increments-c.auto.buffer ∙ d.long; packed = packed_then d.packed c.put_increments-c.ensures }

rows-4 : (c : tie.After-put_row-d) → FirstRows (from (start-4 c)) 4 (start-4 c).args.buffer.now c.put_row-d.new.buffer c.put_row-d.result
rows-4 c =
    let d = rows-3 c.before.before.before.before in
    record { long = c.put_row-d.auto.buffer ∙ d.long; packed = packed_then d.packed c.put_row-d.ensures }

rows-5 : (c : tie.After-put_row-e) → FirstRows (from (start-5 c)) 5 (start-5 c).args.buffer.now c.put_row-e.new.buffer c.put_row-e.result
rows-5 c =
    let d = rows-4 c.before.before.before.before in
    record { long = c.put_row-e.auto.buffer ∙ d.long; packed = packed_then d.packed c.put_row-e.ensures }

rows-6 : (c : tie.After-put-f) → FirstRows (from (start-6 c)) 6 (start-6 c).args.buffer.now c.put-f.new.buffer c.put-f.result
rows-6 c =
    let d = rows-5 c.before.before.before.before in
    record { long = c.put-f.auto.buffer ∙ d.long; packed = packed_then d.packed (packed_one c.put-f.ensures) }

rows-7 : (c : tie.After-put_row-g) → FirstRows (from (start-7 c)) 7 (start-7 c).args.buffer.now c.put_row-g.new.buffer c.put_row-g.result
rows-7 c =
    let d = rows-6 c.before.before.before.before in
    record { long = c.put_row-g.auto.buffer ∙ d.long; packed = packed_then d.packed c.put_row-g.ensures }

rows-8 : (c : tie.After-put-h) → FirstRows (from (start-8 c)) 8 (start-8 c).args.buffer.now c.put-h.new.buffer c.put-h.result
rows-8 c =
    let d = rows-7 c.before.before.before.before in
    record { long = c.put-h.auto.buffer ∙ d.long; packed = packed_then d.packed (packed_one c.put-h.ensures) }

put-requires : tie.Need-put-a-requires
put-requires c κs =
    let s = c.before.before.before.before.before.before in
    let g = from s in
    let buffer = s.args.buffer.now in
    (ready g buffer s.requires 0 4 (no_rows g buffer s.requires) (omega arith), (lit≤ tt, few_years g s.requires.years))

put-row-requires : tie.Need-put_row-b-requires
put-row-requires c κs =
    let d = c.before.before.before in
    let s = start-1 d in
    let fit = ranges_fit (from s) s.requires.ranges in
    (ready (from s) s.args.buffer.now s.requires 1 _ (rows-1 d) (omega arith), search rules)

put-increments-requires : tie.Need-put_increments-c-requires
put-increments-requires c κs =
    let d = c.before.before.before in
    let s = start-2 d in
    (ready (from s) s.args.buffer.now s.requires 2 _ (rows-2 d) (omega arith), (ranges_hold (from s) s.requires.ranges).increments)

put-row-requires-2 : tie.Need-put_row-d-requires
put-row-requires-2 c κs =
    let d = c.before.before.before in
    let s = start-3 d in
    let fit = ranges_fit (from s) s.requires.ranges in
    (ready (from s) s.args.buffer.now s.requires 3 _ (rows-3 d) (omega arith), search rules)

put-row-requires-3 : tie.Need-put_row-e-requires
put-row-requires-3 c κs =
    let d = c.before.before.before in
    let s = start-4 d in
    let fit = ranges_fit (from s) s.requires.ranges in
    (ready (from s) s.args.buffer.now s.requires 4 _ (rows-4 d) (omega arith), search rules)

put-requires-2 : tie.Need-put-f-requires
put-requires-2 c κs =
    let d = c.before.before.before in
    let s = start-5 d in
    let fit = ranges_fit (from s) s.requires.ranges in
    (ready (from s) s.args.buffer.now s.requires 5 _ (rows-5 d) (omega arith), search rules)

put-row-requires-4 : tie.Need-put_row-g-requires
put-row-requires-4 c κs =
    let d = c.before.before.before in
    let s = start-6 d in
    let fit = ranges_fit (from s) s.requires.ranges in
    (ready (from s) s.args.buffer.now s.requires 6 _ (rows-6 d) (omega arith), search rules)

put-requires-3 : tie.Need-put-h-requires
put-requires-3 c κs =
    let d = c.before.before.before in
    let s = start-7 d in
    let fit = ranges_fit (from s) s.requires.ranges in
    (ready (from s) s.args.buffer.now s.requires 7 _ (rows-7 d) (omega arith), search rules)

places-of-requires : tie.Need-places_of-end-requires
places-of-requires c κs =
    let s = start-8 c.before.before in
    few_years (from s) s.requires.years

-- where the fields end, and what the put of the filling bits asks
ends : (c : tie.After-places_of-end) → c.places_of-end.result.end ≡ bit_count (start-8 c.before.before.before).args.k
unfolding places_of
ends c = ap (λ (p : Places). p.end) c.places_of-end.ensures

filling : (c : tie.After-put-h) → Fills (start-8 c).args.k c.put-h.new.buffer c.put-h.result
filling c =
    let s = start-8 c in
    fills (from s) s.args.buffer.now s.requires (rows-8 c)

mul-put : tie.Need-overflow_mul-buffer
mul-put c = record { fits = (filling c.before.before.before.before).short }

sub-put : tie.Need-overflow_sub-buffer
sub-put c = rw (ends c.before) (filling c.before.before.before.before).room

put-requires-4 : tie.Need-put-requires
put-requires-4 c κs =
    let f = filling c.before.before.before.before in
    rw (ends c.before) (f.ready, (f.few, pow_pos _))

same_length : tie.Need-shape_of-buffer
same_length c =
    let p = c.before.before in
    p.put.auto.buffer ∙ (rows-8 p.before.before.before.before.before).long

returns : tie.Need-returns
returns c =
    let p = c.before.before in
    let d = p.before.before.before.before.before in
    let s = start-8 d in
    let last = rw (ends p.before.before) at p.put.ensures in
    recorded (from s) s.args.buffer.now s.requires (rows-8 d) last p.put.auto.buffer (λ i. (c.slice_known-10-1.given i).fits)

pub put_record_spec : {M : Type 1} → statement M
put_record_spec =
    tie.close
    (tie.spec
    put-requires
    put-row-requires
    put-increments-requires
    put-row-requires-2
    put-row-requires-3
    put-requires-2
    put-row-requires-4
    put-requires-3
    places-of-requires
    mul-put
    sub-put
    put-requires-4
    same_length
    returns)
