-- Every window over the rows of averages is the square that is cut out for its position, and the list fills the whole result. Assumes nothing.
use borrow.Author.Rules.{rules}
use mathlib.Core.Path.{◌≡◌, refl, sym, ap, ◌∙◌}
use mathlib.Core.List.{List}
use Prim.Native.Nat.{ℕ, ◌+◌, ◌-◌, ◌*◌, ◌≤◌}
use native.Mathlib.Omega.{arith}
use lib.IntN.{ℤ}
use lib.ListN.{length}
use lib.Seq.{sets, length-sets, take_all}
use Rattle.rules.specs.History.{most_history, least_width, position_count, history_count, history_list}
use Rattle.laws.proofs.Joined.{take_sets}
use Rattle.history_averages.specs.HistoryRows.{history_rows}
use Rattle.history.proofs.Windows.{rows_long, rows_small, list_length, list_is}
use Rattle.history.proofs.fill_list.Statement.{statement}
use Rattle.history.proofs.fill_list.Tie as tie

-- a run of stores as long as the list
sets-whole : (l xs : List ℤ) → length xs ≡ length l → sets l 0 xs ≡ xs
sets-whole l xs e = sym (take_all (length xs) (sets l 0 xs) (simp length-sets (omega arith))) ∙ take_sets l xs (length xs) refl (omega arith)

-- the result holds the entries of every position
room : (years width m : ℕ) → least_width ≤ width → m ≡ history_count years width → (years - width + 1) * (1 + 2 * (width - 1 + 1)) ≤ m
unfolding history_count position_count
room years width m wide e =
    let f : width - 1 + 1 ≡ width = omega arith in
    rw (f, e) (omega arith)

fill-history-requires : tie.Need-fill_history-requires
fill-history-requires c κs =
    let known = c.before.before.requires in
    (known.0.few, ((known.1.exposures, known.1.cells), ((known.1.claims, known.1.amounts), refl)))

slice-aggregate-fill-positions : tie.Need-slice_bounds-fill_positions-end
slice-aggregate-fill-positions c =
    let s = c.before.before.before.before.before in
    sym (ap length c.before.before.fill_history.ensures ∙ rows_long s.args.years s.args.width s.args.exposures.now s.args.cells.now s.requires.0.few)

sub-fill-positions : tie.Need-overflow_sub-width
sub-fill-positions c = search rules

sub-fill-positions-2 : tie.Need-overflow_sub-years
sub-fill-positions-2 c = search rules

add-fill-positions : tie.Need-overflow_add-years
add-fill-positions c = search rules

fill-positions-requires : tie.Need-fill_positions-requires
fill-positions-requires c κs =
    let s = c.before.before.before.before.before in
    let known = s.requires in
    let rows = history_rows s.args.years s.args.width s.args.exposures.now s.args.cells.now s.args.years in
    let long : length rows ≡ most_history = rows_long s.args.years s.args.width s.args.exposures.now s.args.cells.now known.0.few in
    let small = rows_small s.args.years s.args.width s.args.exposures.now s.args.cells.now known.1.claims known.1.amounts in
    rw c.before.before.fill_history.ensures
    ((small, omega (arith, known.0.few, known.0.wide, known.0.within)), (omega (arith, known.0.wide, known.0.narrow), omega (arith, room s.args.years s.args.width (length s.args.res.now) known.0.wide known.1.entries)))

same_length : tie.Need-shape_of-res
same_length c = search rules

returns : tie.Need-returns
returns c =
    let s = c.before.before.before.before.before.before.before in
    let n = s.args.exposures.now in
    let p = s.args.cells.now in
    let list = history_list s.args.years s.args.width n p in
    let long = list_length s.args.years s.args.width n p s.requires.0 in
    let filled : c.before.fill_positions.new.out ≡ sets s.args.res.now 0 list
    = rw (c.before.before.before.before.fill_history.ensures, list_is s.args.years s.args.width n p s.requires.0) at c.before.fill_positions.ensures in
    filled ∙ sets-whole s.args.res.now list (long ∙ sym s.requires.1.entries)

pub fill_list_spec : {M : Type 1} → statement M
fill_list_spec =
    tie.close
    (tie.spec
    fill-history-requires
    slice-aggregate-fill-positions
    sub-fill-positions
    sub-fill-positions-2
    add-fill-positions
    fill-positions-requires
    same_length
    returns)
