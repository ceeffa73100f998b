-- The loop's invariant: the first t tables are put. Assumes nothing.
use mathlib.Core.Path.{◌≡◌}
use mathlib.Core.List.{List}
use mathlib.Core.Bool.{Bool}
use Prim.Native.Nat.{ℕ, ◌+◌, ◌-◌, ◌*◌, ◌/◌, ◌≤◌}
use native.Mathlib.Omega.{arith}
use lib.IntN.{ℤ}
use Rattle.rules.specs.Lists.{up_to, joined}
use Rattle.rules.specs.History.{position_count}
use Rattle.composing.specs.Text.{Put}
use Rattle.composing.proofs.Puts.{put_first, put_more, put_length}
use Rattle.history_tables.specs.Tables.{history_table, rows_from, table_count, history_tables}
use borrow.Author.Rules.{rules}
use Rattle.history_tables.proofs.put_position_tables.Statement.{statement}
use Rattle.history_tables.proofs.put_position_tables.Tie as tie

-- table t
abbrev table_at : Bool → List ℕ → ℕ → ℕ → ℕ → List ℤ → ℕ → ℕ → ℕ → List ℕ
table_at html words first years width list offset d t =
    history_table html words first list width offset d (16 * t) (rows_from (years - width + 1) (16 * t))

abbrev invariant-loop : tie.invariant-loop-t
invariant-loop out₀ at html words first years width list offset d count tables end₀ t₀ out end t =
    (t ≤ tables) × Put out₀ out at end (joined (up_to (table_at html words first years width list offset d) t))

abbrev decreases-loop : tie.decreases-loop-t
decreases-loop out₀ at html words first years width list offset d count tables end₀ t₀ out end t = tables - t

loop-holds : tie.Need-loop-t-init invariant-loop decreases-loop
loop-holds c = (omega arith, put_first _ _ _)

put-position-table-requires : tie.Need-put_position_table-end-requires invariant-loop decreases-loop
unfolding rows_from
put-position-table-requires c κs =
    let s = c.before.before.before.before.before.before in
    let sound = s.requires.0 in
    let rows = c.rows_from.ensures in (
      record {
        width_most_lem = sound.width_most_lem;
        rows_most = omega (arith, rows);
        inside = omega (arith, rows, sound.years_most, sound.width_fits);
      },
      (sound.first_most, s.requires.1),
    )

loop-again : tie.Need-loop-t-preserved invariant-loop decreases-loop
loop-again c =
    let s = c.before.before.before.before.before.before.before.before.before in
    let l = c.before.before.before.before.before.before.loop-t in
    let a = s.args in
    (omega arith, put_more (table_at a.html a.words.now a.first a.years a.width a.list.now a.offset a.d) l.t l.invariant.1 (rw c.before.before.before.rows_from.ensures at c.before.before.put_position_table-end.ensures))

same_length : tie.Need-shape_of-out invariant-loop decreases-loop
same_length c = put_length c.before.loop-t.invariant.1

returns : tie.Need-returns invariant-loop decreases-loop
unfolding history_tables table_count position_count
returns c =
    let s = c.before.before.before.before in
    let e : c.before.loop-t.t ≡ (s.args.years - s.args.width + 1 + 15) / 16 = omega arith in
    rw e at c.before.loop-t.invariant.1

pub put_position_tables_spec : {M : Type 1} → statement M
put_position_tables_spec =
    tie.close
    (tie.spec
    invariant-loop
    decreases-loop
    (λ c. search rules)
    (λ c. search rules)
    (λ c. search rules)
    loop-holds
    (λ c. search rules)
    (λ c κs. search rules)
    put-position-table-requires
    (λ c. search rules)
    (λ c. omega arith)
    loop-again
    same_length
    returns)
