-- A line that stands for the indices, or one that is read as due. Assumes nothing.
use mathlib.Core.Path.{◌≡◌, sym, ap, ◌∙◌}
use mathlib.Core.Bool.{true, false}
use mathlib.Core.List.{List, map}
use Prim.Native.Nat.{ℕ, ◌+◌, ◌≤◌}
use native.Mathlib.Omega.{arith}
use lib.IntN.{ℤ, pos}
use lib.ListN.{take, length-take}
use lib.Seq.{sets}
use Rattle.sheet.specs.Table.{room_in}
use Rattle.history_sheet.proofs.Lines.{few_figures, room_most}
use Rattle.sheet.specs.Sheet.{last_year_in, stands_for_indices, indices_made}
use Rattle.line_reading.proofs.LinesRead.{reads_added}
use Rattle.line_reading.proofs.Known.{good_indices, good_place, good_most, stands_figures, stands_place, made_count}
use Rattle.inflation_reading.proofs.Made.{next_made, next_plain}
use borrow.Author.Rules.{rules}
use Rattle.inflation_reading.proofs.read_next.Statement.{statement}
use Rattle.inflation_reading.proofs.read_next.Tie as tie

-- the numbers so far
abbrev start : tie.After-last_year-k → tie.Start
start y = y.before.before.before

abbrev numbers : tie.After-last_year-k → List ℤ
numbers y = take (start y).args.f.count (start y).args.list.now

last-year-requires : tie.Need-last_year-k-requires
last-year-requires c κs = omega (arith, length-take c.before.before.args.f.count c.before.before.args.list.now, c.before.before.requires.1.1.size)

stands-for-indices-requires : tie.Need-stands_for_indices-requires
stands-for-indices-requires c κs = omega (arith, c.last_year-k.ensures, (start c).requires.1.1.few)

-- a line that stands for the indices
stands : (s : tie.Then-stands_for_indices) → stands_for_indices (start s.before.before).args.history (last_year_in (numbers s.before.before)) (start s.before.before).args.f.place (start s.before.before).args.line.now ≡ true
stands s =
    let y = s.before.before in
    ap (λ (k : ℕ). stands_for_indices (start y).args.history k (start y).args.f.place (start y).args.line.now) (sym y.last_year-k.ensures) ∙ sym s.before.stands_for_indices.ensures ∙ s.if-stands_for_indices.true

-- there is room for them
room : (s : tie.Then-stands_for_indices) → (start s.before.before).args.f.count + (s.before.before.last_year-k.result + 1) ≤ room_in (start s.before.before).args.history
room s =
    let y = s.before.before in
    let a = (start y).args in
    let k = last_year_in (numbers y) in
    let more =
    good_indices a.history (numbers y) a.f.place a.f.count (map pos (indices_made k a.line.now)) (stands_figures a.history k a.f.place a.line.now (stands s)) (start y).requires.1.1
    (stands_place a.history k a.f.place a.line.now (stands s)) (made_count k a.line.now) in
    omega (arith, y.last_year-k.ensures, good_most a.history _ _ _ more)

put-made-requires : tie.Need-put_made-requires
put-made-requires c κs =
    let s = c.before in
    let y = s.before.before in
    let h = (start y).args.history in
    let k = last_year_in (numbers y) in
    let few = few_figures h k (stands_figures h k (start y).args.f.place (start y).args.line.now (stands s)) (start y).requires.1.1.few in
    (omega (arith, y.last_year-k.ensures, few), (omega (arith, room s, (start s.before.before).requires.1.0), sym s.before.stands_for_indices.ensures ∙ s.if-stands_for_indices.true))

add-years : tie.Need-overflow_add-years
add-years c =
    let s = c.before.before.before in
    omega (arith, room s, room_most (start s.before.before).args.history)

add-t16 : tie.Need-overflow_add-result-then-stands_for_indices
add-t16 c =
    let s = start c.before.before.before.before.before.before.before in
    omega (arith, good_place s.args.history _ _ _ s.requires.1.1)

add-t17 : tie.Need-overflow_add-result-then-stands_for_indices-2
add-t17 c =
    let s = c.before.before.before.before.before.before in
    omega (arith, room s, room_most (start s.before.before).args.history)

returns : tie.Need-returns-then-stands_for_indices
returns c =
    let p = c.before.before.before.before in
    let s = p.before.before in
    let y = s.before.before in
    let a = (start y).args in
    let k = last_year_in (numbers y) in
    reads_added a.list.now _ (a.f.line + 1) a.f.place a.f.count (y.last_year-k.result + 1) (map pos (indices_made k a.line.now)) (next_made a.history _ _ (numbers y) a.line.now (stands s))
    (start y).requires.1.1.size (omega (arith, y.last_year-k.ensures, made_count k a.line.now))
    (p.put_made.ensures ∙ ap (λ (m : ℕ). sets a.list.now a.f.count (map pos (indices_made m a.line.now))) y.last_year-k.ensures)

returns-2 : tie.Need-returns
returns-2 c =
    let e = c.before.before.before.before.before.before in
    let y = e.before.before in
    let a = (start y).args in
    let other : stands_for_indices a.history (last_year_in (numbers y)) a.f.place a.line.now ≡ false =
    ap (λ (k : ℕ). stands_for_indices a.history k a.f.place a.line.now) (sym y.last_year-k.ensures) ∙ sym e.before.stands_for_indices.ensures ∙ e.if-stands_for_indices.false in
    rw (next_plain a.history (a.f.line + 1) a.f.place (numbers y) a.line.now other) c.before.before.before.read_line.ensures

pub read_next_spec : {M : Type 1} → statement M
read_next_spec =
    tie.close
    (tie.spec
    last-year-requires
    stands-for-indices-requires
    put-made-requires
    add-years
    (λ c. search rules)
    add-t16
    add-t17
    (λ c. search rules)
    returns
    (λ c κs. search rules)
    (λ c. search rules)
    (λ c. search rules)
    returns-2)
