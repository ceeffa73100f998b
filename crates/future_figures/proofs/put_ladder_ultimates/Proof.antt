-- The loop's invariant: the ultimates of the years before i are put; what they are taken from stands before them. Assumes nothing.
use Prim.Native.Nat.{ℕ, zero, suc, ◌+◌, ◌-◌, ◌≤◌, ◌<◌}
use native.Mathlib.Omega.{arith}
use mathlib.Core.Path.{◌≡◌, refl, ◌∙◌}
use mathlib.Core.List.{List}
use lib.IntN.{ℤ, pos}
use lib.Seq.{sets}
use mir.Syntax.{w64}
use mir.Facts.{to_z-of_z}
use Rattle.rules.specs.Lists.{up_to}
use Rattle.rules.specs.Triangle.{future_start}
use Rattle.laws.proofs.Joined.{sets_more}
use Rattle.laws.proofs.Signed.{held}
use Rattle.vectors.specs.Vectors.{figure_at}
use Rattle.vectors.proofs.Before.{sets_before}
use Rattle.future_figures.specs.FutureFigures.{ultimate_place, ladder_ultimates}
use Rattle.future_figures.proofs.Future.{payment_inside}
use borrow.Author.Rules.{rules, sfits_of}
use Rattle.future_figures.proofs.put_ladder_ultimates.Statement.{statement}
use Rattle.future_figures.proofs.put_ladder_ultimates.Tie as tie

-- the ultimate of year i
abbrev one : ℕ → ℕ → List ℤ → ℕ → ℤ
one p c xs i = figure_at xs (ultimate_place p c i)

inside : (k p c at i : ℕ) → i ≤ k → p < at → c + future_start (k + 1) ≤ at → ultimate_place p c i < at
unfolding ultimate_place
inside k p c at zero h l m = l
inside k p c at (suc i) h l m = omega (arith, payment_inside k i i h (omega arith))

abbrev invariant-loop : tie.invariant-loop-i
invariant-loop out₀ at p c k n i₀ out i = (i ≤ n) × (out ≡ sets out₀ at (up_to (one p c out₀) i))

abbrev decreases-loop : tie.decreases-loop-i
decreases-loop out₀ at p c k n i₀ out i = n - i

loop-holds : tie.Need-loop-i-init invariant-loop decreases-loop
unfolding up_to
loop-holds c = (omega arith, refl)

-- where the ultimate of a turn is taken from
place : (l : tie.At-loop-i invariant-loop decreases-loop) → l.loop-i.i ≤ l.before.args.k → ultimate_place l.before.args.p l.before.args.c l.loop-i.i < l.before.args.at
place l h = inside l.before.args.k l.before.args.p l.before.args.c l.before.args.at l.loop-i.i h l.before.requires.1.1.0 l.before.requires.1.1.1

loop-again : tie.Need-loop-i-preserved invariant-loop decreases-loop
loop-again c =
    let l = c.before.before.before in
    let s = l.before in
    let from = c.before.ultimate_place-from.ensures in
    let kept =
    sets_before s.args.out.now s.args.at (up_to (one s.args.p s.args.c s.args.out.now) l.loop-i.i) (ultimate_place s.args.p s.args.c l.loop-i.i) (pos 0)
    (place l (omega arith)) in
    let read : held (figure_at l.loop-i.out c.before.ultimate_place-from.result) ≡ one s.args.p s.args.c s.args.out.now l.loop-i.i =
    to_z-of_z {w = w64} {z = figure_at l.loop-i.out c.before.ultimate_place-from.result} (sfits_of c.out-1.given) ∙ rw (from, l.loop-i.invariant.1) kept in
    (omega arith, rw (read, l.loop-i.invariant.1) (sets_more (one s.args.p s.args.c s.args.out.now) s.args.out.now s.args.at l.loop-i.i))

returns : tie.Need-returns invariant-loop decreases-loop
unfolding ladder_ultimates
returns c =
    let e : c.before.loop-i.i ≡ c.before.before.args.k + 1 = omega arith in
    rw e at c.before.loop-i.invariant.1

pub put_ladder_ultimates_spec : {M : Type 1} → statement M
put_ladder_ultimates_spec =
    tie.close
    (tie.spec
    invariant-loop
    decreases-loop
    (λ c. omega arith)
    loop-holds
    (λ c κs. omega arith)
    (λ c. omega (arith, place c.before.before (omega arith), c.ultimate_place-from.ensures))
    (λ c. omega (arith, place c.before.before (omega arith), c.ultimate_place-from.ensures))
    (λ c. omega arith)
    (λ c. omega arith)
    (λ c. omega arith)
    (λ c. omega arith)
    (λ c. omega arith)
    loop-again
    returns)
