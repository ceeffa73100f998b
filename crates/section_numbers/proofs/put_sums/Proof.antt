-- The loop's invariant: the sums of the first j sections are put (sets_more). Assumes nothing.
use Prim.Native.Nat.{ℕ, ◌-◌, ◌≤◌}
use native.Mathlib.Omega.{arith}
use mathlib.Core.Path.{◌≡◌, refl, ◌∙◌}
use mathlib.Core.List.{List}
use lib.IntN.{ℤ}
use lib.ListN.{length, get_or, length-set}
use lib.Seq.{sets}
use mir.Syntax.{w64}
use mir.Facts.{to_z-of_z}
use Rattle.rules.specs.Lists.{up_to}
use Rattle.laws.proofs.Joined.{sets_more}
use Rattle.section_numbers.specs.Numbers.{sum_of, sums_of}
use borrow.Author.Rules.{rules, sfits_of}
use Rattle.section_numbers.proofs.put_sums.Statement.{statement}
use Rattle.section_numbers.proofs.put_sums.Tie as tie

-- the sum of section j
abbrev one : List ℕ → List ℕ → List ℤ → ℕ → ℤ
one starts counts xs j = sum_of (get_or starts j 0) (get_or counts j 0) xs

abbrev invariant-loop : tie.invariant-loop-j
invariant-loop out₀ at figures starts counts n j₀ out j = (j ≤ n) × ((out ≡ sets out₀ at (up_to (one starts counts figures) j)) × (length out ≡ length out₀))

abbrev decreases-loop : tie.decreases-loop-j
decreases-loop out₀ at figures starts counts n j₀ out j = n - j

loop-holds : tie.Need-loop-j-init invariant-loop decreases-loop
unfolding up_to
loop-holds c = (omega arith, (refl, refl))

section-sum-requires : tie.Need-section_sum-requires invariant-loop decreases-loop
section-sum-requires c κs =
    let l = c.before.before.before.before.before in
    l.before.requires.1.1 l.loop-j.j (omega arith)

loop-again : tie.Need-loop-j-preserved invariant-loop decreases-loop
loop-again c =
    let l = c.before.before.before.before.before.before in
    let s = l.before in
    let made = to_z-of_z {w = w64} {z = c.section_sum.result} (sfits_of c.section_sum.type_inv) ∙ c.section_sum.ensures.0 in
    (omega arith, (rw (made, l.loop-j.invariant.1.0) (sets_more (one s.args.starts.now s.args.counts.now s.args.figures.now) s.args.out.now s.args.at l.loop-j.j), simp length-set l.loop-j.invariant.1.1))

returns : tie.Need-returns invariant-loop decreases-loop
unfolding sums_of
returns c =
    let e : c.before.loop-j.j ≡ c.before.before.args.n = omega arith in
    rw e at c.before.loop-j.invariant.1.0

pub put_sums_spec : {M : Type 1} → statement M
put_sums_spec =
    tie.close
    (tie.spec
    invariant-loop
    decreases-loop
    loop-holds
    (λ c. omega arith)
    (λ c. omega arith)
    (λ c. omega arith)
    (λ c. omega arith)
    section-sum-requires
    (λ c. search rules)
    (λ c. search rules)
    (λ c. search rules)
    (λ c. search rules)
    (λ c. search rules)
    loop-again
    (λ c. search rules)
    returns)
