-- The loop's invariant: the first j products are put; what they are made of stands before them. Assumes nothing.
use Prim.Native.Nat.{ℕ, ◌+◌, ◌-◌, ◌*◌, ◌/◌, ◌≤◌, ◌<◌}
use native.Mathlib.Nat.{mul-le-mul}
use native.Mathlib.Omega.{arith}
use mathlib.Core.Path.{◌≡◌, refl, ap, ap₂, ◌∙◌}
use mathlib.Core.List.{List}
use lib.IntN.{ℤ, pos, nat_abs}
use lib.Seq.{sets}
use mir.Syntax.{w64}
use mir.Facts.{to_z-of_z}
use mir.ValLaws.{to_z_pos}
use Rattle.rules.specs.Lists.{up_to}
use Rattle.rules.specs.Separation.{billion}
use Rattle.laws.proofs.Joined.{sets_more}
use Rattle.laws.proofs.Signed.{held, size_fits}
use Rattle.vectors.specs.Vectors.{figure_at}
use Rattle.vectors.proofs.Before.{figure_read}
use Rattle.fitted_figures.specs.FittedFigures.{products}
use borrow.Author.Rules.{rules, sfits_of}
use Rattle.fitted_figures.proofs.put_fitted_row.Statement.{statement}
use Rattle.fitted_figures.proofs.put_fitted_row.Tie as tie

-- product j
abbrev one : ℕ → ℕ → List ℤ → ℕ → ℤ
one r l xs j = pos (nat_abs (figure_at xs (r + j)) * nat_abs (figure_at xs (l + j)) / billion)

abbrev invariant-loop : tie.invariant-loop-j
invariant-loop out₀ at r l n j₀ out j = (j ≤ n) × (out ≡ sets out₀ at (up_to (one r l out₀) j))

abbrev decreases-loop : tie.decreases-loop-j
decreases-loop out₀ at r l n j₀ out j = n - j

loop-holds : tie.Need-loop-j-init invariant-loop decreases-loop
unfolding up_to
loop-holds c = (omega arith, refl)

-- a figure before the place is read as it was
read : (l : tie.At-loop-j invariant-loop decreases-loop) (p : ℕ) → p < l.before.args.at → nat_abs (figure_at l.before.args.out.now p) ≤ billion
    → held (figure_at l.loop-j.out p) ≡ figure_at l.before.args.out.now p
read l p h small =
    let s = l.before in
    figure_read s.args.out.now l.loop-j.out s.args.at (up_to (one s.args.r s.args.l s.args.out.now) l.loop-j.j) l.loop-j.invariant.1 p h (omega arith)

-- the share and the level of a turn, and what their product is at most
share : (c : tie.After-size_of-in-loop-j invariant-loop decreases-loop)
    → c.before.before.size_of.result ≡ nat_abs (figure_at c.before.before.before.before.before.before.args.out.now (c.before.before.before.before.before.before.args.r + c.before.before.before.before.before.loop-j.j))
share c =
    let l = c.before.before.before.before.before in
    let s = l.before in
    c.before.before.size_of.ensures ∙ ap nat_abs (read l (s.args.r + l.loop-j.j) (omega arith) (s.requires.1.1.1.0 l.loop-j.j (omega arith)))

level : (c : tie.After-size_of-in-loop-j invariant-loop decreases-loop)
    → c.size_of-in-loop-j.result ≡ nat_abs (figure_at c.before.before.before.before.before.before.args.out.now (c.before.before.before.before.before.before.args.l + c.before.before.before.before.before.loop-j.j))
level c =
    let l = c.before.before.before.before.before in
    let s = l.before in
    c.size_of-in-loop-j.ensures ∙ ap nat_abs (read l (s.args.l + l.loop-j.j) (omega arith) (s.requires.1.1.1.1 l.loop-j.j (omega arith)))

most : (c : tie.After-size_of-in-loop-j invariant-loop decreases-loop) → c.before.before.size_of.result * c.size_of-in-loop-j.result ≤ billion * billion
most c =
    let l = c.before.before.before.before.before in
    let s = l.before in
    rw (share c, level c) (mul-le-mul (s.requires.1.1.1.0 l.loop-j.j (omega arith)) (s.requires.1.1.1.1 l.loop-j.j (omega arith)))

mul-out : tie.Need-overflow_mul-out invariant-loop decreases-loop
mul-out c = record { fits = omega (arith, most c) }

cast-out : tie.Need-overflow_cast-out invariant-loop decreases-loop
cast-out c = size_fits (pos (c.before.before.size_of.result * c.size_of-in-loop-j.result / billion)) (omega (arith, most c))

loop-again : tie.Need-loop-j-preserved invariant-loop decreases-loop
loop-again c =
    let l = c.before.before.before.before.before in
    let s = l.before in
    let product = to_z_pos w64 (c.before.before.size_of.result * c.size_of-in-loop-j.result / billion) (omega (arith, most c)) in (
      omega arith,
      rw (product, share c, level c, l.loop-j.invariant.1) (sets_more (one s.args.r s.args.l s.args.out.now) s.args.out.now s.args.at l.loop-j.j),
    )

returns : tie.Need-returns invariant-loop decreases-loop
unfolding products
returns c =
    let e : c.before.loop-j.j ≡ c.before.before.args.n = omega arith in
    rw e at c.before.loop-j.invariant.1

pub put_fitted_row_spec : {M : Type 1} → statement M
put_fitted_row_spec =
    tie.close
    (tie.spec
    invariant-loop
    decreases-loop
    loop-holds
    (λ c. omega arith)
    (λ c. omega arith)
    (λ c. omega arith)
    (λ c κs. search rules)
    (λ c. omega arith)
    (λ c. omega arith)
    (λ c. omega arith)
    (λ c κs. search rules)
    mul-out
    cast-out
    (λ c. omega arith)
    (λ c. omega arith)
    (λ c. omega arith)
    (λ c. omega arith)
    (λ c. omega arith)
    loop-again
    returns)
