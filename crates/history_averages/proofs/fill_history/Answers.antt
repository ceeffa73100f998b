-- The loop's invariant: the averages of the origin years before i are stored, and `at` is where origin year i starts. Assumes nothing.
use mathlib.Core.Path.{◌≡◌, refl, sym, ◌∙◌}
use mathlib.Core.List.{List, []}
use Prim.Native.Nat.{ℕ, ◌+◌, ◌<◌}
use native.Mathlib.Omega.{arith}
use lib.IntN.{ℤ, pos}
use lib.ListN.{get_or, set}
use lib.Seq.{sets}
use Rattle.rules.specs.Lists.{up_to, padded}
use Rattle.rules.specs.Triangle.{average_of}
use Rattle.rules.specs.History.{most_history, most_width, history_start, history_paid}
use Rattle.laws.proofs.Lists.{length_up_to}
use Rattle.laws.proofs.Joined.{sets_filled}
use Rattle.laws.proofs.Padded.{filled_none, filled_more, rest_at}
use Rattle.history_cells.proofs.Starts.{years_most, start_more, start_most, year_within}
use Rattle.history_averages.specs.HistoryRows.{years_seen, year_averages, history_row, no_year, history_rows}
use Rattle.history_averages.proofs.fill_history.Goals as goal

-- the rows with one origin year more
more-years : (years width : ℕ) (n : List ℕ) (p : List ℤ) (i at : ℕ) → i < most_history → at ≡ history_start years i → (q : List (List ℤ)) (r : List ℤ)
    → q ≡ history_rows years width n p i
    → r ≡ sets (get_or q i []) 0 (up_to (λ j. average_of (get_or p (at + j) (pos 0)) (get_or n i 0)) (years_seen years width i))
    → set q i r ≡ history_rows years width n p (i + 1)
unfolding history_rows history_row year_averages history_paid
more-years years width n p i at h start q r e f =
    let was : get_or q i [] ≡ no_year = rw e (rest_at most_history no_year (history_row years width n p) i i [] (omega arith) h) in
    let averages : ℕ → ℤ = λ j. average_of (get_or p (at + j) (pos 0)) (get_or n i 0) in
    let filled : sets no_year 0 (up_to averages (years_seen years width i)) ≡ padded most_width (pos 0) (up_to averages (years_seen years width i))
    = sets_filled most_width (pos 0) (up_to averages (years_seen years width i)) (omega (arith, length_up_to averages (years_seen years width i), years_most years i)) in
    let row : r ≡ history_row years width n p i = rw (was, filled, start) at f in
    rw (row, e) (filled_more most_history no_year (history_row years width n p) i h)

pub loop-i-init : goal.loop-i-init
unfolding history_start history_rows
loop-i-init c =
    let s = c in
    (omega arith, refl, s.requires.1.1.1 ∙ filled_none most_history no_year (history_row s.args.years s.args.width s.args.exposures.now s.args.cells.now))

pub fill_year-requires : goal.fill_year-requires
fill_year-requires c =
    let d = c.development_years-paid in
    let l = c.loop-i in
    let s = c in
    let e = c.min-count.ensures in
    let inside = year_within s.args.years l.i (omega arith) in
    (omega (arith, e, d.ensures.1), (omega (arith, e, l.invariant.1, d.ensures.0, s.requires.1.0.1, inside), (s.requires.1.1.0.1, s.requires.1.1.0.0 _ (omega arith))))

pub overflow_add-at : goal.overflow_add-at
overflow_add-at c =
    let l = c.loop-i in
    let s = c in
    omega (arith, l.invariant.1, start_most s.args.years l.i, c.development_years-paid.ensures.1)

pub loop-i-preserved : goal.loop-i-preserved
loop-i-preserved c =
    let d = c.development_years-paid in
    let l = c.loop-i in
    let s = c in
    let years = s.args.years in (
      omega arith,
      rw (l.invariant.1, d.ensures.0) (sym (start_more years l.i)),
      more-years years s.args.width s.args.exposures.now s.args.cells.now l.i l.at (omega arith) l.invariant.1 l.rows _ l.invariant.2 (rw (c.min-count.ensures, d.ensures.0) at c.fill_year.ensures),
    )

pub returns : goal.returns
returns c =
    let e : c.loop-i.i ≡ c.args.years = omega arith in
    rw e at c.loop-i.invariant.2
