-- The loop's invariant: line n is line n − i of the rest. Assumes nothing.
use mathlib.Core.Path.{◌≡◌, sym, ap, ◌∙◌}
use mathlib.Core.List.{List, []}
use Prim.Native.Nat.{ℕ, suc, ◌+◌, ◌-◌, ◌≤◌}
use native.Mathlib.Omega.{arith}
use lib.ListN.{get_or}
use Rattle.scanning.specs.Parts.{past}
use Rattle.sheet.specs.Sheet.{lines}
use Rattle.inflation_asking.proofs.TextLines.{line_first, line_later}
use borrow.Author.Rules.{rules}
use Rattle.inflation_asking.proofs.line_at.Statement.{statement}
use Rattle.inflation_asking.proofs.line_at.Tie as tie

abbrev invariant-loop : tie.invariant-loop-i
invariant-loop text n rest₀ i₀ rest i = (i ≤ n) × ((m : ℕ) → m + i ≡ n → get_or (lines text) n [] ≡ get_or (lines rest) m [])

abbrev decreases-loop : tie.decreases-loop-i
decreases-loop text n rest₀ i₀ rest i = n - i

loop-holds : tie.Need-loop-i-init invariant-loop decreases-loop
loop-holds c =
    let a = c.before.args in
    let same : (m : ℕ) → m + 0 ≡ a.n → a.n ≡ m = λ m e. omega arith in
    (omega arith, λ m e. ap (λ (n : ℕ). get_or (lines a.text.now) n []) (same m e))

loop-again : tie.Need-loop-i-preserved invariant-loop decreases-loop
loop-again c =
    let l = c.before.before.before.before.loop-i in
    (omega arith, λ m e. l.invariant.1 (suc m) (omega arith) ∙ line_later l.rest.now m ∙ ap (λ (r : List ℕ). get_or (lines r) m []) (sym c.past-next.ensures))

returns : tie.Need-returns invariant-loop decreases-loop
returns c =
    let l = c.before.before.before.before.loop-i in
    c.until.ensures ∙ sym (l.invariant.1 0 (omega arith) ∙ line_first l.rest.now)

pub line_at_spec : {M : Type 1} → statement M
line_at_spec =
    tie.close
    (tie.spec
    invariant-loop
    decreases-loop
    loop-holds
    (λ c κs. search rules)
    (λ c. search rules)
    (λ c. search rules)
    loop-again
    (λ c κs. search rules)
    returns)
