-- The loop's invariant: i rows are put, and the rows left complete them (Begun). Assumes nothing.
use native.Mathlib.Omega.{arith}
use Prim.Native.Nat.{◌+◌, ◌-◌, ◌≤◌}
use native.Mathlib.Nat.{sub-zero, zero-add}
use Rattle.rules.specs.Results.{most_entries}
use Rattle.composing.proofs.Puts.{put_length}
use Rattle.rows.specs.Rows.{entries_in, next_row}
use Rattle.rows.proofs.Begun.{Begun, rows_first, rows_more, rows_last, entries_next}
use Rattle.csv_rows.specs.Csv.{csv_row, csv_section}
use borrow.Author.Rules.{rules}
use Rattle.csv_rows.proofs.put_section.Statement.{statement}
use Rattle.csv_rows.proofs.put_section.Tie as tie

abbrev invariant-loop : tie.invariant-loop-i
invariant-loop out₀ at list name unit shape p end₀ n row₀ from₀ i₀ out end row from i =
    (i ≤ n) × ((row.blank ≤ 16) × ((row.up ≤ 1) × ((from + entries_in (n - i) row ≤ most_entries) × Begun (csv_row list name unit shape.origin shape.year) n 0 row₀ p out₀ out at end i row from)))

abbrev decreases-loop : tie.decreases-loop-i
decreases-loop out₀ at list name unit shape p end₀ n row₀ from₀ i₀ out end row from i = n - i

loop-holds : tie.Need-loop-i-init invariant-loop decreases-loop
loop-holds c =
    let s = c.before.before.before.before in
    (omega arith, (s.requires.1.0, (s.requires.1.1.0, (rw sub-zero s.requires.1.1.1, rows_first _ _ _ _ _ _ _))))

put-row-requires : tie.Need-put_row-end-requires invariant-loop decreases-loop
put-row-requires c κs =
    let l = c.before.before.loop-i in
    (l.invariant.1.0, omega (arith, entries_next c.before.before.before.before.before.before.before.args.shape.n l.i l.row (omega arith)))

add-from : tie.Need-overflow_add-from invariant-loop decreases-loop
add-from c =
    let l = c.before.before.before.before.before.before.loop-i in
    omega (arith, entries_next c.before.before.before.before.before.before.before.before.before.before.before.args.shape.n l.i l.row (omega arith))

next-row-requires : tie.Need-next_row-row-requires invariant-loop decreases-loop
next-row-requires c κs =
    let l = c.before.before.before.before.before.before.loop-i in
    (omega (arith, entries_next c.before.before.before.before.before.before.before.before.before.before.before.args.shape.n l.i l.row (omega arith)), l.invariant.1.1.0)

loop-again : tie.Need-loop-i-preserved invariant-loop decreases-loop
unfolding next_row
loop-again c =
    let l = c.before.before.before.before.before.before.before.loop-i in
    let e = c.next_row-row.ensures in
    let rest = entries_next c.before.before.before.before.before.before.before.before.before.before.before.before.args.shape.n l.i l.row (omega arith) in (
      omega arith,
      (
        rw e (omega arith),
        (
          rw e l.invariant.1.1.0,
          (rw e (omega arith), rows_more _ _ _ _ _ l.i l.row c.next_row-row.result l.from (omega arith) l.invariant.1.1.1.1 (rw zero-add c.before.before.before.before.put_row-end.ensures) e),
        ),
      ),
    )

same_length : tie.Need-shape_of-out invariant-loop decreases-loop
same_length c =
    let l = c.before.loop-i in
    put_length (rows_last _ _ _ _ _ l.i l.row l.from (omega arith) l.invariant.1.1.1.1)

returns : tie.Need-returns invariant-loop decreases-loop
unfolding csv_section
returns c =
    let l = c.before.loop-i in
    rows_last _ _ _ _ _ l.i l.row l.from (omega arith) l.invariant.1.1.1.1

pub put_section_spec : {M : Type 1} → statement M
put_section_spec =
    tie.close
    (tie.spec
    invariant-loop
    decreases-loop
    loop-holds
    put-row-requires
    add-from
    next-row-requires
    (λ c. search rules)
    (λ c. search rules)
    loop-again
    same_length
    returns)
