-- The loop's invariant: the lines that were met are not wanted, and the others are left. Assumes nothing.
use mathlib.Core.Path.{◌≡◌, sym, ap, ◌∙◌}
use mathlib.Core.Bool.{Bool}
use mathlib.Core.List.{List}
use Prim.Native.Nat.{ℕ, ◌+◌, ◌≤◌, ◌<◌}
use native.Mathlib.Omega.{arith}
use lib.ListN.{length}
use Rattle.scanning.specs.Parts.{before, until, past}
use Rattle.scanning.proofs.Parts.{until_most}
use Rattle.cells.proofs.CellWalk.{past_shorter}
use Rattle.sheet.specs.Sheet.{lines, is_wanted, lines_before}
use Rattle.inflation_asking.proofs.TextLines.{ends, first_here, first_later, first_none}
use borrow.Author.Rules.{rules}
use Rattle.inflation_asking.proofs.lines_before.Statement.{statement}
use Rattle.inflation_asking.proofs.lines_before.Tie as tie

abbrev invariant-loop : tie.invariant-loop-rest
invariant-loop inflation text rest₀ n₀ rest n =
    (before (is_wanted inflation) (lines text) ≡ n + before (is_wanted inflation) (lines rest)) × (n + length rest ≤ length text)

abbrev decreases-loop : tie.decreases-loop-rest
decreases-loop inflation text rest₀ n₀ rest n = length rest

loop-holds : tie.Need-loop-rest-init invariant-loop decreases-loop
loop-holds c = (omega arith, omega arith)

-- what is left, and what was said of its first line
abbrev rest : tie.After-is_wanted invariant-loop decreases-loop → List ℕ
rest w = w.before.before.before.before.loop-rest.rest.now

abbrev wanted : tie.After-is_wanted invariant-loop decreases-loop → List ℕ → Bool
wanted w = is_wanted w.before.before.before.before.before.before.args.inflation

said : (w : tie.After-is_wanted invariant-loop decreases-loop) → wanted w (until ends (rest w)) ≡ w.is_wanted.result
said w = sym (w.is_wanted.ensures ∙ ap (wanted w) w.before.until-line.ensures)

cut : (w : tie.After-is_wanted invariant-loop decreases-loop) → length w.before.until-line.result.now ≡ length (until ends (rest w))
cut w = ap length w.before.until-line.ensures

returns : tie.Need-returns-then-is_wanted invariant-loop decreases-loop
unfolding lines_before
returns c =
    let w = c.before in
    let l = w.before.before.before.before.loop-rest in
    (omega (arith, l.invariant.0, first_here (wanted w) (rest w) (said w ∙ c.if-is_wanted.true)), omega (arith, l.invariant.1))

add-result : tie.Need-overflow_add-result invariant-loop decreases-loop
add-result c = omega (arith, c.before.before.before.before.before.before.loop-rest.invariant.1)

returns-2 : tie.Need-returns-then-line-rest invariant-loop decreases-loop
unfolding lines_before
returns-2 c =
    let w = c.before.before in
    let l = w.before.before.before.before.loop-rest in
    (omega (arith, l.invariant.0, first_none (wanted w) (rest w) (said w ∙ c.before.if-is_wanted.false) (omega (arith, cut w, c.if-line-rest.true))), omega (arith, l.invariant.1))

add-n : tie.Need-overflow_add-n invariant-loop decreases-loop
add-n c = omega (arith, c.before.before.before.before.before.before.loop-rest.invariant.1)

-- another line follows
more : (e : tie.Else-line-rest invariant-loop decreases-loop) → length (until ends (rest e.before.before)) < length (rest e.before.before)
more e = omega (arith, cut e.before.before, e.if-line-rest.false, until_most ends (rest e.before.before))

loop-less : tie.Need-loop-rest-smaller invariant-loop decreases-loop
loop-less c =
    let e = c.before.before in
    rw c.past-next.ensures (past_shorter ends (rest e.before.before.before) (more e.before))

loop-again : tie.Need-loop-rest-preserved invariant-loop decreases-loop
loop-again c =
    let e = c.before.before.before in
    let w = e.before.before in
    let l = w.before.before.before.before.loop-rest in
    rw c.past-next.ensures
    (omega (arith, l.invariant.0, first_later (wanted w) (rest w) (said w ∙ e.before.if-is_wanted.false) (more e)), omega (arith, l.invariant.1, past_shorter ends (rest w) (more e)))

pub lines_before_spec : {M : Type 1} → statement M
lines_before_spec =
    tie.close
    (tie.spec
    invariant-loop
    decreases-loop
    loop-holds
    (λ c κs. search rules)
    (λ c κs. search rules)
    returns
    add-result
    returns-2
    add-n
    (λ c κs. search rules)
    loop-less
    loop-again)
