-- The loop's invariant: the largest sizes of the first j sections are put (sets_more). Assumes nothing.
use Prim.Native.Nat.{ℕ, ◌-◌, ◌≤◌}
use native.Mathlib.Omega.{arith}
use mathlib.Core.Path.{◌≡◌, refl, ap, ◌∙◌}
use mathlib.Core.List.{List}
use lib.IntN.{ℤ, pos}
use lib.ListN.{length, get_or, length-set}
use lib.Seq.{sets}
use mir.Syntax.{w64}
use mir.ValLaws.{to_z_pos}
use Rattle.rules.specs.Lists.{up_to}
use Rattle.laws.proofs.Joined.{sets_more}
use Rattle.section_numbers.specs.Numbers.{all_largest}
use Rattle.shading.specs.Shading.{largest_size}
use borrow.Author.Rules.{rules}
use Rattle.section_numbers.proofs.put_largest.Statement.{statement}
use Rattle.section_numbers.proofs.put_largest.Tie as tie

-- the largest size of section j
abbrev one : List ℕ → List ℕ → List ℤ → ℕ → ℤ
one starts counts xs j = pos (largest_size (get_or starts j 0) (get_or counts j 0) xs)

abbrev invariant-loop : tie.invariant-loop-j
invariant-loop out₀ at figures starts counts n j₀ out j = (j ≤ n) × ((out ≡ sets out₀ at (up_to (one starts counts figures) j)) × (length out ≡ length out₀))

abbrev decreases-loop : tie.decreases-loop-j
decreases-loop out₀ at figures starts counts n j₀ out j = n - j

loop-holds : tie.Need-loop-j-init invariant-loop decreases-loop
unfolding up_to
loop-holds c = (omega arith, (refl, refl))

section-largest-requires : tie.Need-section_largest-requires invariant-loop decreases-loop
section-largest-requires c κs =
    let l = c.before.before.before.before.before in
    l.before.requires.1.1 l.loop-j.j (omega arith)

loop-again : tie.Need-loop-j-preserved invariant-loop decreases-loop
loop-again c =
    let l = c.before.before.before.before.before.before in
    let s = l.before in
    let made = to_z_pos w64 c.section_largest.result (omega (arith, c.section_largest.ensures.1)) ∙ ap pos c.section_largest.ensures.0 in
    (omega arith, (rw (made, l.loop-j.invariant.1.0) (sets_more (one s.args.starts.now s.args.counts.now s.args.figures.now) s.args.out.now s.args.at l.loop-j.j), simp length-set l.loop-j.invariant.1.1))

returns : tie.Need-returns invariant-loop decreases-loop
unfolding all_largest
returns c =
    let e : c.before.loop-j.j ≡ c.before.before.args.n = omega arith in
    rw e at c.before.loop-j.invariant.1.0

pub put_largest_spec : {M : Type 1} → statement M
put_largest_spec =
    tie.close
    (tie.spec
    invariant-loop
    decreases-loop
    loop-holds
    (λ c. omega arith)
    (λ c. omega arith)
    (λ c. omega arith)
    (λ c. omega arith)
    section-largest-requires
    (λ c. record { sfits = omega (arith, c.section_largest.ensures.1) })
    (λ c. search rules)
    (λ c. search rules)
    (λ c. search rules)
    (λ c. search rules)
    (λ c. search rules)
    loop-again
    (λ c. search rules)
    returns)
