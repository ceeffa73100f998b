-- Entries of the list stand in the array, and are held as they are. Assumes nothing.
use Prim.Native.Nat.{ℕ, ◌+◌, ◌≤◌, ◌<◌}
use native.Mathlib.Omega.{arith}
use mathlib.Core.Path.{◌≡◌, ◌∙◌}
use lib.IntN.{nat_abs}
use mir.Syntax.{w64}
use mir.Facts.{to_z-of_z}
use Rattle.laws.proofs.Signed.{held, size_fits}
use Rattle.signed_sums.specs.Small.{most_figure}
use Rattle.vectors.specs.Vectors.{figure_at}
use Rattle.figure_places.specs.Places.{added_at}
use Rattle.summary_figures.specs.Summary.{entries_of}
use Rattle.summary_figures.proofs.Sections.{all_placed}
use borrow.Author.Rules.{rules, sfits_of}
use Rattle.summary_figures.proofs.fill_entries.Statement.{statement}
use Rattle.summary_figures.proofs.fill_entries.Tie as tie

-- where the three stand
record Three (s : tie.Start) : Type 0 where
  provision : s.args.starts.provision < (added_at s.args.k).differences
  reserve : s.args.starts.reserve < (added_at s.args.k).differences
  ratio : s.args.starts.ratio < (added_at s.args.k).differences
  inside : (added_at s.args.k).differences ≤ 1310

three : (s : tie.Start) → Three s
three s = let p = all_placed s.args.k s.requires.0 in record { provision = rw s.requires.1.0 (omega arith); reserve = rw s.requires.1.0 (omega arith); ratio = rw s.requires.1.0 (omega arith); inside = omega arith }

-- one of them is small, and held as it is
small : (s : tie.Start) (p : ℕ) → p < (added_at s.args.k).differences → nat_abs (figure_at s.args.figures.now p) ≤ most_figure
small s p h =
    let e : 0 + p ≡ p = omega arith in
    rw e at (s.requires.1.1.plotted p h)

kept : (s : tie.Start) (p : ℕ) → p < (added_at s.args.k).differences → held (figure_at s.args.figures.now p) ≡ figure_at s.args.figures.now p
kept s p h = to_z-of_z (size_fits (figure_at s.args.figures.now p) (omega (arith, small s p h)))

add-requires : tie.Need-add-requires
add-requires c κs =
    let s = c.before.before.before.before.before in
    let p = s.args.starts.provision in
    let q = s.args.starts.reserve in
    let t = three s in
    (rw (kept s p t.provision) (omega (arith, small s p t.provision)), rw (kept s q t.reserve) (omega (arith, small s q t.reserve)))

returns : tie.Need-returns
unfolding entries_of
returns c =
    let s = c.before.before.before.before.before.before in
    let t = three s in
    let p = kept s s.args.starts.provision t.provision in
    let q = kept s s.args.starts.reserve t.reserve in
    let sum = to_z-of_z {w = w64} {z = c.add.result} (sfits_of c.add.type_inv) in
    rw (sum ∙ c.add.ensures, p, q, kept s s.args.starts.ratio t.ratio, s.requires.1.0)

pub fill_entries_spec : {M : Type 1} → statement M
fill_entries_spec =
    tie.close
    (tie.spec
    (λ c. omega (arith, three c))
    (λ c. omega (arith, three c))
    (λ c. search rules)
    (λ c. omega (arith, three c.before))
    (λ c. omega (arith, three c.before))
    (λ c. search rules)
    (λ c. omega (arith, three c.before.before))
    (λ c. omega (arith, three c.before.before))
    (λ c. search rules)
    (λ c. omega (arith, three c.before.before.before))
    (λ c. omega (arith, three c.before.before.before))
    (λ c. omega (arith, three c.before.before.before.before))
    (λ c. omega (arith, three c.before.before.before.before))
    add-requires
    (λ c. search rules)
    returns)
