-- The loop's invariant: the first `count` records are taken, and all of their rows are put. Assumes nothing.
use mathlib.Core.Path.{◌≡◌, refl, sym, ap, ◌∙◌}
use mathlib.Core.Bool.{false≢true}
use mathlib.Core.List.{List}
use native.Mathlib.Decide.{ℕ_discrete}
use native.Mathlib.Numerals.{add-one}
use native.Mathlib.Omega.{arith}
use Prim.Native.Nat.{ℕ, ◌+◌, ◌-◌, ◌≤◌, ◌<◌}
use lib.ListN.{length, take, drop, length-append}
use Rattle.rules.specs.Lists.{up_to, joined}
use Rattle.laws.proofs.Joined.{joined_more}
use Rattle.composing.specs.Text.{Put}
use Rattle.composing.proofs.Puts.{put_none, put_more, put_same, put_length, put_room}
use Rattle.valuation.specs.Valuation.{pair_at}
use Rattle.list_runs.specs.Runs.{list_row}
use Rattle.list_stream.specs.Stream.{length_start, record_at, rows_text, most_row}
use Rattle.list_stream.proofs.RowsTaken.{text_most, whole_inside}
use Rattle.list_stream.proofs.put_rows.Statement.{statement}
use Rattle.list_stream.proofs.put_rows.Tie as tie

-- the place after one record more, the row of that record, and the length of the rows with it
next_start : (s : List ℕ) (n p : ℕ) → p ≡ length_start s n → p + 2 + pair_at s p ≡ length_start s (n + 1)
unfolding length_start
next_start s n p e = rw (add-one n, e)

record_is : (year : ℕ) (s : List ℕ) (n p size : ℕ) → p ≡ length_start s n → size ≡ pair_at s p → list_row year (take size (drop (p + 2) s)) ≡ list_row year (record_at s n)
unfolding record_at
record_is year s n p size e f = rw (f, e)

rows_length : (year : ℕ) (s : List ℕ) (n : ℕ) → length (rows_text year s (n + 1)) ≡ length (rows_text year s n) + length (list_row year (record_at s n))
unfolding rows_text
rows_length year s n = rw (add-one n) (ap length (joined_more (λ i. list_row year (record_at s i)) n) ∙ length-append (joined (up_to (λ i. list_row year (record_at s i)) n)) (list_row year (record_at s n)))

-- each of the records taken had room for the longest row, and the next has
had-room : (year : ℕ) (s : List ℕ) (room count : ℕ) → ((i : ℕ) → i < count → length (rows_text year s i) + most_row ≤ room) → length (rows_text year s count) + most_row ≤ room
    → (j : ℕ) → j < count + 1 → length (rows_text year s j) + most_row ≤ room
had-room year s room count before now j h = go (ℕ_discrete j count)
  where
    go : Dec (j ≡ count) → length (rows_text year s j) + most_row ≤ room
    go (yes e) = rw e now
    go (no n) = before j (omega (arith, n))

pub record Turn (year : ℕ) (s before after : List ℕ) (room count from end : ℕ) : Type 0 where
  pub long : room ≡ length before
  pub few : count ≤ from
  pub place : from ≡ length_start s count
  pub inside : from ≤ length s
  pub put : Put before after 0 end (rows_text year s count)
  pub whole : end ≡ length (rows_text year s count)
  pub fits : end ≤ length before
  pub taken : (i : ℕ) → i < count → length (rows_text year s i) + most_row ≤ length before

abbrev invariant-loop : tie.invariant-loop-end
invariant-loop year s out₀ room count₀ from₀ end₀ out count from end = Turn year s out₀ out room count from end

abbrev decreases-loop : tie.decreases-loop-end
decreases-loop year s out₀ room count₀ from₀ end₀ out count from end = length s - from

loop-holds : tie.Need-loop-end-init invariant-loop decreases-loop
unfolding length_start rows_text up_to joined
loop-holds c = record { long = refl; few = omega arith; place = refl; inside = omega arith; put = put_none _ _; whole = refl; fits = omega arith; taken = λ i h. absurd (omega arith) }

sub-loop : tie.Need-overflow_sub-room invariant-loop decreases-loop
sub-loop c = let i = c.loop-end.invariant in omega (arith, i.long, i.fits)

has-whole-requires : tie.Need-has_whole-requires invariant-loop decreases-loop
has-whole-requires c κs = c.before.loop-end.invariant.inside

same_length : tie.Need-shape_of-out-then-not-has_whole invariant-loop decreases-loop
same_length c = put_length c.before.before.before.loop-end.invariant.put

returns : tie.Need-returns-then-not-has_whole invariant-loop decreases-loop
returns c =
    let t = c.before in
    let i = t.before.before.loop-end.invariant in
    let none = sym t.has_whole.ensures ∙ c.if-not-has_whole.true in
    record { place = i.place; inside = i.inside; put = i.put; whole = i.whole; fits = i.fits; taken = i.taken; done = λ w. absurd (false≢true (sym none ∙ w)) }

-- the record at hand stands inside
here : (c : tie.Else-not-has_whole invariant-loop decreases-loop) → c.before.before.before.loop-end.from + 2 + pair_at c.before.before.before.before.before.before.args.s.now c.before.before.before.loop-end.from ≤ length c.before.before.before.before.before.before.args.s.now
here c =
    let t = c.before in
    let at = t.before.before in
    whole_inside at.before.before.before.args.s.now at.loop-end.from (sym t.has_whole.ensures ∙ c.if-not-has_whole.false)

pair-at-requires : tie.Need-pair_at-n-requires invariant-loop decreases-loop
pair-at-requires c κs = omega (arith, here c)

put-record-requires : tie.Need-put_record-end-requires invariant-loop decreases-loop
put-record-requires c κs = let t = c.before in omega (arith, here t.before, t.pair_at-n.ensures.0)

-- the place after it
abbrev taken : tie.After-slice_known-in-loop-end-1 invariant-loop decreases-loop → tie.After-pair_at-n invariant-loop decreases-loop
taken c = c.before.before.before.before

past : (c : tie.After-slice_known-in-loop-end-1 invariant-loop decreases-loop) →
    let n = taken c in
    let at = n.before.before.before.before in
    at.loop-end.from + 2 + n.pair_at-n.result ≤ length at.before.before.before.args.s.now
past c = let n = taken c in omega (arith, here n.before, n.pair_at-n.ensures.0)

add-from : tie.Need-overflow_add-from invariant-loop decreases-loop
add-from c = omega (arith, past c)

add-from-2 : tie.Need-overflow_add-from-in-loop-end invariant-loop decreases-loop
add-from-2 c = omega (arith, past c)

add-count : tie.Need-overflow_add-count invariant-loop decreases-loop
add-count c = omega (arith, past c, (taken c).before.before.before.before.loop-end.invariant.few)

loop-less : tie.Need-loop-end-smaller invariant-loop decreases-loop
loop-less c = omega (arith, past c)

loop-again : tie.Need-loop-end-preserved invariant-loop decreases-loop
unfolding rows_text
loop-again c =
    let n = taken c in
    let at = n.before.before.before.before in
    let s = at.before.before.before.args.s.now in
    let year = at.before.before.before.args.year in
    let i = at.loop-end.invariant in
    let count = at.loop-end.count in
    let put = put_same (record_is year s count at.loop-end.from n.pair_at-n.result i.place n.pair_at-n.ensures.0) c.before.before.put_record-end.ensures in
    let row = text_most 32 year (record_at s count) in
    let ended = put_room put (omega (arith, row, put_length i.put, i.long)) in
    record {
      long = i.long;
      few = omega (arith, i.few);
      place = rw n.pair_at-n.ensures.0 (next_start s count at.loop-end.from i.place);
      inside = past c;
      put = put_more (λ j. list_row year (record_at s j)) count i.put put;
      whole = omega (arith, ended, rows_length year s count, i.whole);
      fits = omega (arith, ended, row, i.long);
      taken = had-room year s (length at.before.before.before.args.out.now) count i.taken (omega (arith, i.long, i.fits, i.whole));
    }

same-length-2 : tie.Need-shape_of-out invariant-loop decreases-loop
same-length-2 c = put_length c.before.loop-end.invariant.put

returns-2 : tie.Need-returns invariant-loop decreases-loop
returns-2 c =
    let i = c.before.loop-end.invariant in
    record { place = i.place; inside = i.inside; put = i.put; whole = i.whole; fits = i.fits; taken = i.taken; done = λ w. omega (arith, i.long, i.fits) }

pub put_rows_spec : {M : Type 1} → statement M
put_rows_spec =
    tie.close
    (tie.spec
    invariant-loop
    decreases-loop
    loop-holds
    sub-loop
    has-whole-requires
    same_length
    returns
    pair-at-requires
    put-record-requires
    add-from
    add-from-2
    add-count
    loop-less
    loop-again
    same-length-2
    returns-2)
