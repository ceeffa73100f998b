-- The loop's invariant: the first j lines are put. Assumes nothing.
use mathlib.Core.Path.{◌≡◌, ◌∙◌}
use mathlib.Core.Bool.{true}
use mathlib.Core.List.{List}
use Prim.Native.Nat.{ℕ, ◌+◌, ◌-◌, ◌≤◌}
use native.Mathlib.Omega.{arith}
use lib.IntN.{ℤ}
use mir.Syntax.{w64}
use mir.Val.{to_z, of_z}
use mir.Facts.{to_z-of_z}
use borrow.Author.Rules.{rules, sfits_of}
use Rattle.rules.specs.Lists.{up_to, joined}
use Rattle.composing.specs.Text.{Put}
use Rattle.composing.proofs.Puts.{put_first, put_more, put_length}
use Rattle.csv_rows.specs.Csv.{csv_line}
use Rattle.history_places.specs.Places.{position_entry}
use Rattle.history_csv.specs.Csv.{entry_lines}
use Rattle.history_csv.proofs.put_entry_lines.Statement.{statement}
use Rattle.history_csv.proofs.put_entry_lines.Tie as tie

-- the line of entry e + j
abbrev line_at : List ℕ → List ℕ → ℕ → List ℤ → ℕ → ℕ → ℕ → ℕ → List ℕ
line_at name unit first list width a e j = csv_line name unit true true (first + a) j (position_entry list width a (e + j))

abbrev invariant-loop : tie.invariant-loop-j
invariant-loop out₀ at name unit first list width a e n end₀ j₀ out end j =
    (j ≤ n) × Put out₀ out at end (joined (up_to (line_at name unit first list width a e) j))

abbrev decreases-loop : tie.decreases-loop-j
decreases-loop out₀ at name unit first list width a e n end₀ j₀ out end j = n - j

loop-holds : tie.Need-loop-j-init invariant-loop decreases-loop
loop-holds c = (omega arith, put_first _ _ _)

entry-of-requires : tie.Need-entry_of-z-requires invariant-loop decreases-loop
entry-of-requires c κs = (c.before.before.before.before.before.requires.0, omega (arith, c.before.before.before.before.before.requires.1.1))

loop-again : tie.Need-loop-j-preserved invariant-loop decreases-loop
loop-again c =
    let s = c.before.before.before.before.before.before.before.before.before.before.args in
    let l = c.before.before.before.before.before.before.loop-j in
    let kept : to_z w64 (of_z w64 c.before.before.before.before.entry_of-z.result) ≡ position_entry s.list.now s.width s.a (s.e + l.j) = to_z-of_z {w = w64} (sfits_of c.before.before.before.before.entry_of-z.type_inv) ∙ c.before.before.before.before.entry_of-z.ensures in
    (omega arith, put_more (line_at s.name.now s.unit.now s.first s.list.now s.width s.a s.e) l.j l.invariant.1 (rw kept at c.before.before.put_line-end.ensures))

same_length : tie.Need-shape_of-out invariant-loop decreases-loop
same_length c = put_length c.before.loop-j.invariant.1

returns : tie.Need-returns invariant-loop decreases-loop
unfolding entry_lines
returns c =
    let e : c.before.loop-j.j ≡ c.before.before.before.before.before.args.n = omega arith in
    rw e at c.before.loop-j.invariant.1

pub put_entry_lines_spec : {M : Type 1} → statement M
put_entry_lines_spec =
    tie.close
    (tie.spec
    invariant-loop
    decreases-loop
    loop-holds
    (λ c. search rules)
    entry-of-requires
    (λ c. search rules)
    (λ c κs. search rules)
    (λ c. omega arith)
    (λ c. omega arith)
    loop-again
    same_length
    returns)
