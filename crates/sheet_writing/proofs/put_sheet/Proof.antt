-- The loop's invariant: the lines before place i are put, and their numbers passed (put_next_line). Assumes nothing.
use mathlib.Core.Path.{◌≡◌, refl}
use Prim.Native.Nat.{◌+◌, ◌-◌, ◌<◌, ◌≤◌}
use native.Mathlib.Omega.{arith}
use native.Mathlib.Numerals.{add-one}
use borrow.Author.Rules.{rules, sfits_of}
use lib.IntN.{pos}
use lib.ListN.{length, get_or}
use mir.Facts.{to_z-of_z}
use mir.Syntax.{w64}
use Rattle.rules.specs.Lists.{up_to, total}
use Rattle.rules.specs.Record.{most_fields}
use Rattle.composing.specs.Text.{Put}
use Rattle.composing.proofs.Puts.{put_none, put_length}
use Rattle.sheet.specs.Table.{due_at, due_lines, start_in, start_at}
use Rattle.sheet.specs.Sheet.{lines_of, last_year_in, sheet_of}
use Rattle.sheet.proofs.Table.{line_start_more, start_room}
use Rattle.sheet_writing.proofs.LinesPut.{put_next_line}
use Rattle.sheet_writing.proofs.put_sheet.Statement.{statement}
use Rattle.sheet_writing.proofs.put_sheet.Tie as tie

abbrev invariant-loop : tie.invariant-loop-i
invariant-loop out₀ list k n end₀ from₀ i₀ out end from i =
    (k < 16) × ((n ≡ k + 8) × ((i ≤ n) × ((from ≡ start_at k i) × Put out₀ out 0 end (lines_of (up_to (due_at k) i) list))))

abbrev decreases-loop : tie.decreases-loop-i
decreases-loop out₀ list k n end₀ from₀ i₀ out end from i = n - i

-- the number that is taken from the list is k
years : (c : tie.After-size_of-k invariant-loop decreases-loop) → (c.size_of-k.result ≡ last_year_in c.before.before.before.args.list.now) × (c.size_of-k.result < 16)
years c =
    let vs = c.before.before.before.args.list.now in
    let kept = to_z-of_z {w = w64} {z = get_or vs 0 (pos 0)} (sfits_of c.before.size_of-arg-1.given) in
    let e : c.size_of-k.result ≡ last_year_in vs = rw kept at c.size_of-k.ensures in
    (e, omega (arith, c.before.before.before.requires))

-- room for the numbers of the line
room : (c : tie.After-due_at-d invariant-loop decreases-loop) → c.before.before.loop-i.from + c.due_at-d.result.count ≤ most_fields
room c =
    let l = c.before.before.loop-i in
    let k = c.before.before.before.size_of-k.result in
    rw (c.due_at-d.ensures, l.invariant.1.1.1.0) (start_room k l.i l.invariant.0 (omega (arith, c.before.loop-i-test.true)))

add-n : tie.Need-overflow_add-n invariant-loop decreases-loop
add-n c = omega (arith, (years c).1)

loop-holds : tie.Need-loop-i-init invariant-loop decreases-loop
unfolding start_in up_to total lines_of
loop-holds c = ((years c).1, (refl, (omega arith, (refl, put_none _ _))))

put-line-requires : tie.Need-put_line-end-requires invariant-loop decreases-loop
put-line-requires c κs =
    let long : length c.before.before.before.before.before.before.before.before.args.list.now ≡ most_fields = c.put_line-arg-in-loop-i-1.given in
    omega (arith, room c.before.before)

add-from : tie.Need-overflow_add-from invariant-loop decreases-loop
add-from c = omega (arith, room c.before.before.before.before.before.before)

loop-again : tie.Need-loop-i-preserved invariant-loop decreases-loop
loop-again c =
    let l = c.before.before.before.before.before.before.before.before.loop-i in
    let k = c.before.before.before.before.before.before.before.before.before.size_of-k.result in
    let d = c.before.before.before.before.before.before.due_at-d in
    let from : l.from + d.result.count ≡ start_at k (l.i + 1) = rw (add-one, d.ensures, line_start_more k l.i) (omega (arith, l.invariant.1.1.1.0)) in
    (l.invariant.0, (refl, (omega arith, (from, put_next_line k l.i l.from c.before.before.before.before.before.before.before.before.before.before.before.before.args.list.now l.invariant.1.1.1.0 l.invariant.1.1.1.1 (rw d.ensures at c.before.before.before.put_line-end.ensures)))))

same_length : tie.Need-shape_of-out invariant-loop decreases-loop
same_length c = put_length c.before.loop-i.invariant.1.1.1.1

returns : tie.Need-returns invariant-loop decreases-loop
unfolding sheet_of due_lines
returns c =
    let l = c.before.loop-i in
    let k = c.before.before.size_of-k.result in
    let e : l.i ≡ k + 8 = omega arith in
    rw (← (years c.before.before).0) (rw e at l.invariant.1.1.1.1)

pub put_sheet_spec : {M : Type 1} → statement M
put_sheet_spec =
    tie.close
    (tie.spec
    invariant-loop
    decreases-loop
    (λ c. search rules)
    (λ c κs. search rules)
    add-n
    loop-holds
    (λ c κs. search rules)
    put-line-requires
    add-from
    (λ c. search rules)
    (λ c. search rules)
    loop-again
    same_length
    returns)
