-- The loop's invariant: the first j lines are put. Assumes nothing.
use mathlib.Core.Path.{◌≡◌}
use native.Mathlib.Omega.{arith}
use Prim.Native.Nat.{ℕ, ◌+◌, ◌-◌, ◌≤◌}
use mathlib.Core.List.{List}
use mathlib.Core.Bool.{Bool}
use lib.IntN.{ℤ}
use mir.Facts.{to_z-of_z}
use mir.Syntax.{w64}
use Rattle.rules.specs.Lists.{up_to, joined}
use Rattle.composing.specs.Text.{Put}
use Rattle.composing.proofs.Puts.{put_first, put_more, put_length}
use Rattle.rows.specs.Rows.{entry}
use Rattle.csv_rows.specs.Csv.{csv_line, csv_row}
use borrow.Author.Rules.{rules, sfits_of}
use Rattle.csv_rows.proofs.put_row.Statement.{statement}
use Rattle.csv_rows.proofs.put_row.Tie as tie

-- the line of entry j
abbrev line_of : List ℤ → List ℕ → List ℕ → Bool → Bool → ℕ → ℕ → ℕ → ℕ → List ℕ
line_of list name unit origin year i y p j = csv_line name unit origin year i (y + j) (entry list (p + j))

abbrev invariant-loop : tie.invariant-loop-j
invariant-loop out₀ at list name unit origin year i y n p end₀ j₀ out end j = (j ≤ n) × Put out₀ out at end (joined (up_to (line_of list name unit origin year i y p) j))

abbrev decreases-loop : tie.decreases-loop-j
decreases-loop out₀ at list name unit origin year i y n p end₀ j₀ out end j = n - j

loop-holds : tie.Need-loop-j-init invariant-loop decreases-loop
loop-holds c = (omega arith, put_first _ _ _)

loop-again : tie.Need-loop-j-preserved invariant-loop decreases-loop
loop-again c =
    let l = c.before.before.before.before.before.before.loop-j in
    let s = c.before.before.before.before.before.before.before.before.before.before.args in
    let kept = to_z-of_z {w = w64} {z = entry s.list.now (s.p + l.j)} (sfits_of c.before.before.before.put_line-arg-in-loop-j-1.given) in
    let put = rw kept at c.before.before.put_line-end.ensures in
    (omega arith, put_more (line_of s.list.now s.name.now s.unit.now s.origin s.year s.i s.y s.p) l.j l.invariant.1 put)

same_length : tie.Need-shape_of-out invariant-loop decreases-loop
same_length c = put_length c.before.loop-j.invariant.1

returns : tie.Need-returns invariant-loop decreases-loop
unfolding csv_row
returns c =
    let e : c.before.loop-j.j ≡ c.before.before.before.before.before.args.n = omega arith in
    rw e at c.before.loop-j.invariant.1

pub put_row_spec : {M : Type 1} → statement M
put_row_spec =
    tie.close
    (tie.spec
    invariant-loop
    decreases-loop
    loop-holds
    (λ c. search rules)
    (λ c. search rules)
    (λ c. search rules)
    (λ c. search rules)
    (λ c κs. search rules)
    (λ c. search rules)
    (λ c. search rules)
    loop-again
    same_length
    returns)
