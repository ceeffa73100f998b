-- The loop's invariant: the allowances of the years before i are put; the numbers of claims stand before them. Assumes nothing.
use Prim.Native.Nat.{ℕ, ◌+◌, ◌-◌, ◌≤◌, ◌<◌}
use native.Mathlib.Omega.{arith}
use mathlib.Core.Path.{◌≡◌, refl, ap, ◌∙◌}
use mathlib.Core.List.{List}
use lib.IntN.{ℤ, pos, nat_abs}
use lib.Seq.{sets}
use mir.Syntax.{w64}
use mir.ValLaws.{to_z_pos}
use Rattle.rules.specs.Lists.{up_to}
use Rattle.laws.proofs.Joined.{sets_more}
use Rattle.laws.proofs.Signed.{size_fits}
use Rattle.vectors.specs.Vectors.{figure_at}
use Rattle.vectors.proofs.Before.{figure_read}
use Rattle.allowance_figures.specs.Allowances.{allowance, allowances}
use borrow.Author.Rules.{rules}
use Rattle.allowance_figures.proofs.put_allowances.Statement.{statement}
use Rattle.allowance_figures.proofs.put_allowances.Tie as tie

-- the allowance of year i
abbrev one : ℕ → ℕ → List ℤ → ℕ → ℤ
one more x xs i = pos (allowance (nat_abs (figure_at xs (x + i))) i + more)

abbrev invariant-loop : tie.invariant-loop-i
invariant-loop out₀ at more x k n i₀ out i = (i ≤ n) × (out ≡ sets out₀ at (up_to (one more x out₀) i))

abbrev decreases-loop : tie.decreases-loop-i
decreases-loop out₀ at more x k n i₀ out i = n - i

loop-holds : tie.Need-loop-i-init invariant-loop decreases-loop
unfolding up_to
loop-holds c = (omega arith, refl)

-- the number of claims of a turn
claims : (c : tie.After-size_of-claims invariant-loop decreases-loop)
    → c.size_of-claims.result ≡ nat_abs (figure_at c.before.before.before.before.args.out.now (c.before.before.before.before.args.x + c.before.before.before.loop-i.i))
claims c =
    let l = c.before.before.before in
    let s = l.before in
    c.size_of-claims.ensures
    ∙ ap nat_abs
    (figure_read s.args.out.now l.loop-i.out s.args.at (up_to (one s.args.more s.args.x s.args.out.now) l.loop-i.i) l.loop-i.invariant.1 (s.args.x + l.loop-i.i) (omega arith)
    (omega (arith, s.requires.1.1.1.1 l.loop-i.i (omega arith))))

allowance-of-requires : tie.Need-allowance_of-requires invariant-loop decreases-loop
allowance-of-requires c κs =
    let l = c.before.before.before in
    (omega (arith, claims c, l.before.requires.1.1.1.1 l.loop-i.i (omega arith)), omega arith)

cast-out : tie.Need-overflow_cast-out invariant-loop decreases-loop
cast-out c = size_fits (pos (c.allowance_of.result + c.before.before.before.before.before.args.more)) (omega (arith, c.allowance_of.ensures.1))

loop-again : tie.Need-loop-i-preserved invariant-loop decreases-loop
loop-again c =
    let l = c.before.before.before.before in
    let s = l.before in
    let put = to_z_pos w64 (c.allowance_of.result + s.args.more) (omega (arith, c.allowance_of.ensures.1)) in
    (omega arith, rw (put, c.allowance_of.ensures.0, claims c.before, l.loop-i.invariant.1) (sets_more (one s.args.more s.args.x s.args.out.now) s.args.out.now s.args.at l.loop-i.i))

returns : tie.Need-returns invariant-loop decreases-loop
unfolding allowances
returns c =
    let e : c.before.loop-i.i ≡ c.before.before.args.k + 1 = omega arith in
    rw e at c.before.loop-i.invariant.1

pub put_allowances_spec : {M : Type 1} → statement M
put_allowances_spec =
    tie.close
    (tie.spec
    invariant-loop
    decreases-loop
    (λ c. omega arith)
    loop-holds
    (λ c. omega arith)
    (λ c. omega arith)
    (λ c. omega arith)
    (λ c κs. search rules)
    allowance-of-requires
    (λ c. omega (arith, c.allowance_of.ensures.1))
    cast-out
    (λ c. omega arith)
    (λ c. omega arith)
    (λ c. omega arith)
    (λ c. omega arith)
    (λ c. omega arith)
    loop-again
    returns)
