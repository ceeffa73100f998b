-- By what the line has, and what is due. Assumes nothing.
use mathlib.Core.Path.{◌≡◌, sym, ap, ◌∙◌}
use mathlib.Core.Bool.{false}
use mathlib.Core.List.{List, []}
use Prim.Native.Nat.{ℕ, ◌+◌, ◌≤◌}
use native.Mathlib.Omega.{arith}
use lib.IntN.{ℤ}
use lib.ListN.{take, length-take}
use Rattle.composing.proofs.Puts.{put_none, put_same}
use Rattle.cells.specs.Cells.{is_bare, cells_of, label_of}
use Rattle.sheet.specs.declared.Due.{Due}
use Rattle.sheet.specs.Table.{lines_in, due_in, most_first, room_in}
use Rattle.sheet.specs.Sheet.{last_year_in, wrong_in, word_in}
use Rattle.history_sheet.proofs.Lines.{room_most}
use Rattle.line_reading.proofs.LinesRead.{line_bare, line_over, line_wrong, line_fine, reads_kept, reads_fine}
use Rattle.line_reading.proofs.Known.{as_due, good_place, good_room}
use borrow.Author.Rules.{rules}
use Rattle.line_reading.proofs.read_line.Statement.{statement}
use Rattle.line_reading.proofs.read_line.Tie as tie

-- the numbers so far, the first of them, and how many lines it calls for
abbrev start : tie.After-last_year-k → tie.Start
start y = y.before.before.before.before.before.before

abbrev numbers : tie.After-last_year-k → List ℤ
numbers y = take (start y).args.f.count (start y).args.list.now

few : (y : tie.After-last_year-k) → y.last_year-k.result ≤ most_first (start y).args.history
few y = omega (arith, y.last_year-k.ensures, (start y).requires.1.1.few)

count : (l : tie.After-lines_in) → l.lines_in.result ≡ lines_in (start l.before).args.history (last_year_in (numbers l.before))
count l = l.lines_in.ensures ∙ ap (lines_in (start l.before).args.history) l.before.last_year-k.ensures

-- the line has something in it
filled : (y : tie.After-last_year-k) → is_bare (start y).args.line.now ≡ false
filled y = sym y.before.before.is_bare.ensures ∙ y.before.if-is_bare.false

-- a line is due, and what is wrong with the one that is there
abbrev year : tie.After-wrong_in-w → tie.After-last_year-k
year c = c.before.before.before.before.before

left : (c : tie.After-wrong_in-w) → (start (year c)).args.f.place ≡ lines_in (start (year c)).args.history (last_year_in (numbers (year c))) → ⊥
left c e = c.before.before.if-f-lines_in.false (e ∙ sym (count c.before.before.before.before))

line-due : (c : tie.After-wrong_in-w) → c.before.due_in-d.result ≡ due_in (start (year c)).args.history (last_year_in (numbers (year c))) (start (year c)).args.f.place
line-due c =
    c.before.due_in-d.ensures ∙ ap (λ (n : ℕ). due_in (start (year c)).args.history n (start (year c)).args.f.place) (year c).last_year-k.ensures

due : (c : tie.After-wrong_in-w)
    → c.wrong_in-w.result ≡ wrong_in (due_in (start (year c)).args.history (last_year_in (numbers (year c))) (start (year c)).args.f.place) (start (year c)).args.line.now
due c = c.wrong_in-w.ensures ∙ ap (λ (d : Due). wrong_in d (start (year c)).args.line.now) (line-due c)

room : (c : tie.After-wrong_in-w) → (start (year c)).args.f.count + c.before.due_in-d.result.count ≤ room_in (start (year c)).args.history
room c =
    let a = (start (year c)).args in
    omega (arith, ap (λ (d : Due). d.count) (line-due c), good_room a.history (numbers (year c)) a.f.place a.f.count (start (year c)).requires.1.1 (left c))

returns : tie.Need-returns-then-is_bare
returns c =
    let s = c.before.before.before.before.before in
    let a = s.args in
    let f = a.f in
    reads_kept a.list.now 0 (f.line + 1) f.place 0 f.count []
    (line_bare a.history (f.line + 1) f.place (take f.count a.list.now) a.line.now (sym c.before.is_bare.ensures ∙ c.if-is_bare.true)) s.requires.1.1.size (put_none _ 0)

last-year-requires : tie.Need-last_year-k-requires
last-year-requires c κs =
    let s = c.before.before.before.before.before in
    omega (arith, length-take s.args.f.count s.args.list.now, s.requires.1.1.size)

lines-in-requires : tie.Need-lines_in-requires
lines-in-requires c κs = few c

returns-2 : tie.Need-returns-then-f-lines_in
returns-2 c =
    let o = c.before.before.before.before.before in
    let y = o.before.before.before in
    let a = (start y).args in
    let f = a.f in
    reads_kept a.list.now 6 (f.line + 1) f.place 0 f.count (label_of a.line.now)
    (line_over a.history (f.line + 1) f.place (numbers y) a.line.now (filled y) (o.if-f-lines_in.true ∙ count o.before.before)) (start y).requires.1.1.size (put_same c.before.before.before.label_of.ensures c.before.before.put_bytes-size.ensures)

due-in-requires : tie.Need-due_in-d-requires
due-in-requires c κs = few c.before.before.before

returns-3 : tie.Need-returns-then-w-ne0
returns-3 c =
    let i = c.before.before.before.before.before.before in
    let a = (start (year i)).args in
    let f = a.f in
    let w = i.wrong_in-w.result in
    reads_kept a.list.now w.problem (f.line + 1) f.place w.cell f.count (word_in w a.line.now)
    (line_wrong a.history (f.line + 1) f.place (numbers (year i)) a.line.now (filled (year i)) (left i) w (due i) c.before.before.before.before.if-w-ne0.true)
    (start (year i)).requires.1.1.size c.before.before.put_word-size.ensures

put-numbers-requires : tie.Need-put_numbers-requires
put-numbers-requires c κs =
    let i = c.before.before.before in
    omega (arith, room i, (start (year i)).requires.1.0)

add-t16 : tie.Need-overflow_add-result
add-t16 c =
    let s = start (year c.before.before.before.before.before.before) in
    omega (arith, good_place s.args.history _ _ _ s.requires.1.1)

add-t26 : tie.Need-overflow_add-result-2
add-t26 c =
    let i = c.before.before.before.before.before.before.before.before in
    omega (arith, room i, room_most (start (year i)).args.history)

returns-4 : tie.Need-returns
returns-4 c =
    let i = c.before.before.before.before.before.before.before.before in
    let a = (start (year i)).args in
    let f = a.f in
    let d = i.before.due_in-d.result in
    let cs = cells_of a.line.now in
    let right = c.before.before.before.before.before.before.if-w-ne0.false in
    let fine = sym (ap (λ x. x.problem) i.wrong_in-w.ensures) ∙ right in
    reads_fine a.list.now _ (f.line + 1) f.place f.count d.count cs
    (line_fine a.history (f.line + 1) f.place (numbers (year i)) a.line.now (filled (year i)) (left i) i.wrong_in-w.result (due i) right)
    (start (year i)).requires.1.1.size (as_due d a.line.now fine).count c.before.before.before.before.put_numbers.ensures

pub read_line_spec : {M : Type 1} → statement M
read_line_spec =
    tie.close
    (tie.spec
    (λ c. search rules)
    (λ c κs. search rules)
    returns
    last-year-requires
    lines-in-requires
    (λ c κs. search rules)
    (λ c κs. search rules)
    (λ c. search rules)
    (λ c. search rules)
    returns-2
    due-in-requires
    (λ c κs. search rules)
    (λ c κs. search rules)
    (λ c. search rules)
    (λ c. search rules)
    returns-3
    put-numbers-requires
    add-t16
    add-t26
    (λ c. search rules)
    returns-4)
