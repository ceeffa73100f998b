-- The loop's invariant: nothing is wrong so far, and the lines of the rest are left (State). Assumes nothing.
use mathlib.Core.Path.{◌≡◌, sym, ap, ◌∙◌}
use mathlib.Core.Bool.{Bool}
use mathlib.Core.List.{List, [], ◌∷◌}
use Prim.Native.Nat.{ℕ, ◌+◌, ◌≤◌, ◌<◌}
use native.Mathlib.Omega.{arith}
use borrow.Author.Rules.{rules}
use lib.ListN.{length, take}
use Rattle.composing.specs.Text.{ascii}
use Rattle.composing.proofs.Puts.{put_length}
use Rattle.scanning.specs.Parts.{among, until, past}
use Rattle.scanning.proofs.Parts.{until_most}
use Rattle.cells.specs.Cells.{content_of}
use Rattle.cells.proofs.CellWalk.{pieces_first, pieces_last, pieces_more, past_shorter, after}
use Rattle.sheet.specs.Table.{room_in}
use Rattle.sheet.specs.Sheet.{lines, read_next}
use Rattle.line_reading.specs.Reads.{Reads}
use Rattle.sheet_reading.proofs.Turns.{State, state_start, state_long, reads_long, state_wrong, state_next, next_line, state_end, unmarked_most}
use Rattle.sheet_reading.proofs.read_text.Statement.{statement}
use Rattle.sheet_reading.proofs.read_text.Tie as tie

abbrev invariant-loop : tie.invariant-loop-f
invariant-loop history text list₀ word₀ rest₀ f₀ list word rest f = State history text list₀ word₀ (lines rest) list word f × (f.line + length rest ≤ length text)

abbrev decreases-loop : tie.decreases-loop-f
decreases-loop history text list₀ word₀ rest₀ f₀ list word rest f = length rest

abbrev p : ℕ → Bool
p = among (ascii "\n")

-- a line was read, where the lines of the rest are these
abbrev at-loop : tie.After-read_next-f invariant-loop decreases-loop → tie.At-loop-f invariant-loop decreases-loop
at-loop c = c.before.before.before.before.before.before.before

abbrev Here : (c : tie.After-read_next-f invariant-loop decreases-loop) → List (List ℕ) → Type 0
Here c ls = lines (at-loop c).loop-f.rest.now ≡ until p (at-loop c).loop-f.rest.now ∷ ls

abbrev start : tie.At-loop-f invariant-loop decreases-loop → tie.Start invariant-loop decreases-loop
start l = l.before.before.before.before

-- the list keeps its length
long : (l : tie.At-loop-f invariant-loop decreases-loop) → length l.loop-f.list ≡ room_in (start l).args.history
long l = state_long l.loop-f.invariant.0 ∙ (start l).requires

-- what it came to
reads : (c : tie.After-read_next-f invariant-loop decreases-loop)
    → Reads (read_next (start (at-loop c)).args.history ((at-loop c).loop-f.f.line + 1) (at-loop c).loop-f.f.place (take (at-loop c).loop-f.f.count (at-loop c).loop-f.list) (content_of (until p (at-loop c).loop-f.rest.now)))
    c.read_next-f.result (at-loop c).loop-f.list c.read_next-f.new.list (at-loop c).loop-f.word c.read_next-f.new.word
reads c = rw (c.before.before.before.content_of.ensures, c.before.before.before.before.until-line.ensures) at c.read_next-f.ensures

long_after : (c : tie.After-read_next-f invariant-loop decreases-loop) → length c.read_next-f.new.list ≡ room_in (start (at-loop c)).args.history
long_after c = reads_long (reads c) ∙ long (at-loop c)

next : (c : tie.After-read_next-f invariant-loop decreases-loop) (ls : List (List ℕ)) → Here c ls → c.read_next-f.result.problem ≡ 0
    → State (start (at-loop c)).args.history (start (at-loop c)).args.text.now (start (at-loop c)).args.list.now (start (at-loop c)).args.word.now ls c.read_next-f.new.list c.read_next-f.new.word c.read_next-f.result
next c ls e h =
    let l = (at-loop c).loop-f in
    state_next _ _ _ _ (until p l.rest.now) ls l.list _ l.word _ l.f _ (rw e at l.invariant.0) (reads c) h (long (at-loop c))

loop-holds : tie.Need-loop-f-init invariant-loop decreases-loop
loop-holds c =
    (rw c.without_mark-rest.ensures (state_start _ _ _ _), rw c.without_mark-rest.ensures (omega (arith, unmarked_most c.before.before.before.args.text.now)))

read-next-requires : tie.Need-read_next-f-requires invariant-loop decreases-loop
read-next-requires c κs =
    let l = c.before.before.before.before.before.before in
    (omega arith, (long l, l.loop-f.invariant.0.good))

same_length : tie.Need-shape_of-list-then-f-ne0 invariant-loop decreases-loop
same_length c =
    let d = c.before.before.before.before.before in
    long_after d ∙ sym (start (at-loop d)).requires

same-length-2 : tie.Need-shape_of-word-then-f-ne0 invariant-loop decreases-loop
same-length-2 c =
    let d = c.before.before.before.before.before in
    put_length (reads d).put ∙ ap length (at-loop d).loop-f.invariant.0.kept

returns : tie.Need-returns-then-f-ne0 invariant-loop decreases-loop
returns c =
    let d = c.before.before.before.before.before in
    let l = (at-loop d).loop-f in
    let rest = l.rest.now in
    state_wrong _ _ _ _ (until p rest) (after p rest) l.list _ l.word _ l.f _ (rw (pieces_first p rest) at l.invariant.0) (reads d) c.if-f-ne0.true

read-end-requires : tie.Need-read_end-requires invariant-loop decreases-loop
read-end-requires c κs =
    let d = c.before.before.before.before.before.before in
    (long_after d, (next d (after p (at-loop d).loop-f.rest.now) (pieces_first p (at-loop d).loop-f.rest.now) c.before.if-f-ne0.false).good)

same-length-3 : tie.Need-shape_of-list-then-line-rest invariant-loop decreases-loop
same-length-3 c =
    let d = c.before.before.before.before.before.before.before in
    long_after d ∙ sym (start (at-loop d)).requires

same-length-4 : tie.Need-shape_of-word-then-line-rest invariant-loop decreases-loop
same-length-4 c =
    let d = c.before.before.before.before.before.before.before in
    put_length (reads d).put ∙ ap length (at-loop d).loop-f.invariant.0.kept

returns-2 : tie.Need-returns-then-line-rest invariant-loop decreases-loop
returns-2 c =
    let d = c.before.before.before.before.before.before.before in
    let rest = (at-loop d).loop-f.rest.now in
    let all : length rest ≤ length (until p rest) = omega (arith, ap length d.before.before.before.before.until-line.ensures, c.before.if-line-rest.true) in
    state_end _ _ _ _ _ _ _ _ (next d [] (pieces_last p rest all) c.before.before.if-f-ne0.false) (c.read_end.ensures _)

loop-less : tie.Need-loop-f-smaller invariant-loop decreases-loop
loop-less c =
    let d = c.before.before.before.before.before.before.before.before.before in
    let rest = (at-loop d).loop-f.rest.now in
    rw c.past-next.ensures (past_shorter p rest (omega (arith, ap length d.before.before.before.before.until-line.ensures, until_most p rest)))

loop-again : tie.Need-loop-f-preserved invariant-loop decreases-loop
loop-again c =
    let d = c.before.before.before.before.before.before.before.before.before in
    let l = (at-loop d).loop-f in
    let rest = l.rest.now in
    let more : length (until p rest) < length rest = omega (arith, ap length d.before.before.before.before.until-line.ensures, until_most p rest) in
    let number = next_line _ _ _ _ (until p rest) (lines (past p rest)) l.list _ l.word _ l.f _ (rw (pieces_more p rest more) at l.invariant.0) (reads d) c.before.before.before.before.if-f-ne0.false (long (at-loop d)) in
    rw c.past-next.ensures
    (next d (lines (past p rest)) (pieces_more p rest more) c.before.before.before.before.if-f-ne0.false, omega (arith, number, past_shorter p rest more))

pub read_text_spec : {M : Type 1} → statement M
read_text_spec =
    tie.close
    (tie.spec
    invariant-loop
    decreases-loop
    (λ c κs. search rules)
    loop-holds
    (λ c κs. search rules)
    (λ c κs. search rules)
    read-next-requires
    same_length
    same-length-2
    returns
    read-end-requires
    same-length-3
    same-length-4
    returns-2
    (λ c κs. search rules)
    loop-less
    loop-again)
