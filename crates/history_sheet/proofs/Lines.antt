-- The table of a history place by place, and what both tables have. Assumes nothing.
use mathlib.Core.Path.{◌≡◌, ap, ◌∙◌}
use mathlib.Core.Bool.{Bool, true, false, true≢false}
use Prim.Native.Nat.{ℕ, zero, suc, ◌+◌, ◌-◌, ◌≤◌, ◌<◌}
use native.Mathlib.Omega.{arith}
use borrow.Author.Tests.{ne_eqb}
use lib.IntN.{pos, neg_ℤ}
use Rattle.rules.specs.Lists.{up_to, total}
use Rattle.rules.specs.Record.{most_amount}
use Rattle.rules.specs.History.{most_history, development_years, history_start, history_cells}
use Rattle.rules.proofs.Sizes.{most_history_lem}
use Rattle.laws.proofs.Totals.{total_part}
use Rattle.laws.proofs.TriangleRows.{cells_most}
use Rattle.sheet.specs.Table.{due, history_due_at, lines_in, due_in, start_in, most_first, most_numbers, room_in}
use Rattle.sheet.proofs.Table.{start_more, start_all}

-- the first number is at most 64, and of figures below 16; there are at most eight lines more than it says; and no more than the numbers of a history are made room for
pub first_most : (history : Bool) (n : ℕ) → n ≤ most_first history → n ≤ most_history
first_most true n h = h
first_most false n h = omega arith

pub few_figures : (history : Bool) (n : ℕ) → history ≡ false → n ≤ most_first history → n < 16
few_figures true n e h = absurd (true≢false e)
few_figures false n e h = omega arith

pub lines_most : (history : Bool) (n : ℕ) → lines_in history n ≤ n + 8
lines_most true n = omega arith
lines_most false n = omega arith

pub room_most : (history : Bool) → room_in history ≤ most_numbers
room_most true = omega arith
room_most false = omega arith

-- the lines of the increments
pub history_paid_lem : (years i : ℕ) → history_due_at years (suc (suc (suc i))) ≡ due 2 (development_years years i) (neg_ℤ (pos most_amount)) (pos most_amount)
unfolding history_due_at
history_paid_lem years i =
    let e : suc (suc (suc i)) - 3 ≡ i = omega arith in
    rw (ne_eqb (suc (suc (suc i))) 0 (λ e. omega arith), ne_eqb (suc (suc (suc i))) 1 (λ e. omega arith), ne_eqb (suc (suc (suc i))) 2 (λ e. omega arith), e)

-- how many numbers the lines before an origin year's increments take, and all of them
pub history_start_lem : (years i : ℕ) → start_in true years (suc (suc (suc i))) ≡ 2 + years + history_start years i
unfolding start_in history_due_at history_start up_to total
history_start_lem years zero = omega arith
history_start_lem years (suc i) =
    let e : 2 + years + history_start years i + development_years years i ≡ 2 + years + (history_start years i + development_years years i) = omega arith in
    start_more true years (suc (suc (suc i))) ∙ rw (history_start_lem years i, history_paid_lem years i, e)

pub history_all : (years : ℕ) → start_in true years (lines_in true years) ≡ 2 + years + history_cells years
unfolding history_cells
history_all years =
    let e : years + 3 ≡ suc (suc (suc years)) = omega arith in
    ap (start_in true years) e ∙ history_start_lem years years

-- a history of at most 64 years has at most 904 increments
years_more : (years i : ℕ) → years ≤ most_history → history_start years i ≤ history_start most_history i
unfolding history_start development_years
years_more years zero h = omega arith
years_more years (suc i) h = omega (arith, years_more years i h)

rows_more : (i j : ℕ) → history_start most_history i ≤ history_start most_history (i + j)
unfolding history_start
rows_more i zero =
    let e : i + 0 ≡ i = omega arith in
    rw e (omega arith)
rows_more i (suc j) =
    let e : i + suc j ≡ suc (i + j) = omega arith in
    rw e (omega (arith, rows_more i j))

pub cells_few : (years : ℕ) → years ≤ most_history → history_cells years ≤ 904
unfolding history_cells
cells_few years h =
    let e : years + (most_history - years) ≡ most_history = omega arith in
    omega (arith, years_more years years h, rows_more years (most_history - years), ap (history_start most_history) e, most_history_lem.0)

-- all the numbers of a text are made room for
pub all_room : (history : Bool) (n : ℕ) → n ≤ most_first history → start_in history n (lines_in history n) ≤ room_in history
all_room true n h = omega (arith, history_all n, cells_few n h)
all_room false n h = omega (arith, start_all n, cells_most n (omega arith))

-- and so are those of a line
pub line_room : (history : Bool) (n place : ℕ) → n ≤ most_first history → place < lines_in history n
    → start_in history n place + (due_in history n place).count ≤ room_in history
unfolding start_in
line_room history n place h l =
    omega (arith, start_more history n place, total_part (λ i. (due_in history n i).count) (suc place) (lines_in history n) l, all_room history n h)
