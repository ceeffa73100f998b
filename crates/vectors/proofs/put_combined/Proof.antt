-- The loop's invariant: the first i are put; the figures that they are made of stand before them. Assumes nothing.
use Prim.Native.Nat.{ℕ, ◌+◌, ◌-◌, ◌≤◌, ◌<◌}
use native.Mathlib.Omega.{arith}
use mathlib.Core.Path.{◌≡◌, refl, ap₂, ◌∙◌}
use mathlib.Core.Bool.{Bool}
use mathlib.Core.List.{List}
use lib.IntN.{ℤ, nat_abs}
use lib.Seq.{sets}
use mir.Syntax.{w64}
use mir.Facts.{to_z-of_z}
use borrow.Author.Rules.{sfits_of}
use Rattle.rules.specs.Lists.{up_to}
use Rattle.laws.proofs.Joined.{sets_more}
use Rattle.laws.proofs.Signed.{held}
use Rattle.signed_sums.specs.Small.{most_figure}
use Rattle.vectors.specs.Vectors.{figure_at, combined, combined_all}
use Rattle.vectors.proofs.Before.{figure_read}
use Rattle.vectors.proofs.put_combined.Statement.{statement}
use Rattle.vectors.proofs.put_combined.Tie as tie

-- entry i
abbrev one : List ℤ → Bool → ℕ → ℕ → ℕ → ℤ
one xs less a b i = combined less (figure_at xs (a + i)) (figure_at xs (b + i))

abbrev invariant-loop : tie.invariant-loop-i
invariant-loop out₀ at less a b n i₀ out i = (i ≤ n) × (out ≡ sets out₀ at (up_to (one out₀ less a b) i))

abbrev decreases-loop : tie.decreases-loop-i
decreases-loop out₀ at less a b n i₀ out i = n - i

loop-holds : tie.Need-loop-i-init invariant-loop decreases-loop
unfolding up_to
loop-holds c = (omega arith, refl)

-- a figure before the place is read as it was
read : (l : tie.At-loop-i invariant-loop decreases-loop) (p : ℕ) → p < l.before.args.at → nat_abs (figure_at l.before.args.out.now p) ≤ most_figure
    → held (figure_at l.loop-i.out p) ≡ figure_at l.before.args.out.now p
read l p h small =
    let s = l.before in
    figure_read s.args.out.now l.loop-i.out s.args.at (up_to (one s.args.out.now s.args.less s.args.a s.args.b) l.loop-i.i) l.loop-i.invariant.1 p h small

combined-of-requires : tie.Need-combined_of-requires invariant-loop decreases-loop
combined-of-requires c κs =
    let l = c.before.before.before in
    let s = l.before in
    let x = s.requires.1.1.1.0 l.loop-i.i (omega arith) in
    let y = s.requires.1.1.1.1 l.loop-i.i (omega arith) in
    (rw (read l (s.args.a + l.loop-i.i) (omega arith) x) (omega arith), rw (read l (s.args.b + l.loop-i.i) (omega arith) y) (omega arith))

loop-again : tie.Need-loop-i-preserved invariant-loop decreases-loop
loop-again c =
    let l = c.before.before.before.before in
    let s = l.before in
    let fits = to_z-of_z {w = w64} {z = c.combined_of.result} (sfits_of c.combined_of.type_inv) in
    let x = read l (s.args.a + l.loop-i.i) (omega arith) (s.requires.1.1.1.0 l.loop-i.i (omega arith)) in
    let y = read l (s.args.b + l.loop-i.i) (omega arith) (s.requires.1.1.1.1 l.loop-i.i (omega arith)) in
    let made = fits ∙ c.combined_of.ensures ∙ ap₂ (combined s.args.less) x y in (
      omega arith,
      rw (made, l.loop-i.invariant.1)
          (sets_more (one s.args.out.now s.args.less s.args.a s.args.b) s.args.out.now s.args.at l.loop-i.i),
    )

returns : tie.Need-returns invariant-loop decreases-loop
unfolding combined_all
returns c =
    let e : c.before.loop-i.i ≡ c.before.before.args.n = omega arith in
    rw e at c.before.loop-i.invariant.1

pub put_combined_spec : {M : Type 1} → statement M
put_combined_spec =
    tie.close
    (tie.spec
    invariant-loop
    decreases-loop
    loop-holds
    (λ c. omega arith)
    (λ c. omega arith)
    (λ c. omega arith)
    (λ c. omega arith)
    (λ c. omega arith)
    (λ c. omega arith)
    combined-of-requires
    (λ c. omega arith)
    (λ c. omega arith)
    (λ c. omega arith)
    (λ c. omega arith)
    (λ c. omega arith)
    loop-again
    returns)
