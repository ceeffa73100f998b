-- The loop's invariant: the first i numbers are stored. Assumes nothing.
use mathlib.Core.Path.{◌≡◌, refl, ap, ◌∙◌}
use mathlib.Core.List.{[]}
use Prim.Native.Nat.{ℕ, ◌-◌, ◌≤◌}
use native.Mathlib.Omega.{arith}
use borrow.Author.Rules.{rules, sfits_of}
use lib.ListN.{length, get_or}
use lib.Seq.{sets, length-sets}
use mir.Facts.{to_z-of_z}
use mir.Syntax.{w64}
use Rattle.rules.specs.Lists.{up_to}
use Rattle.laws.proofs.Joined.{sets_more}
use Rattle.scanning.specs.Numbers.{whole_of}
use Rattle.cells.specs.Cells.{cells_of}
use Rattle.line_reading.proofs.put_numbers.Statement.{statement}
use Rattle.line_reading.proofs.put_numbers.Tie as tie

abbrev invariant-loop : tie.invariant-loop-i
invariant-loop list₀ at line n i₀ list i = (i ≤ n) × (list ≡ sets list₀ at (up_to (λ i. whole_of (get_or (cells_of line) i [])) i))

abbrev decreases-loop : tie.decreases-loop-i
decreases-loop list₀ at line n i₀ list i = n - i

long : (l : tie.At-loop-i invariant-loop decreases-loop) → length l.loop-i.list ≡ length l.before.before.args.list.now
long l = ap length l.loop-i.invariant.1 ∙ simp length-sets

loop-holds : tie.Need-loop-i-init invariant-loop decreases-loop
unfolding up_to
loop-holds c = (omega arith, refl)

slice-set-from-list : tie.Need-bounds-list-at invariant-loop decreases-loop
slice-set-from-list c = omega (arith, long c.before.before.before)

loop-again : tie.Need-loop-i-preserved invariant-loop decreases-loop
loop-again c =
    let l = c.before.before.before.loop-i in
    let a = c.before.before.before.before.before.args in
    let v = to_z-of_z {w = w64} {z = c.number_of.result} (sfits_of c.number_of.type_inv) ∙ c.number_of.ensures ∙ ap whole_of c.before.cell_at.ensures in
    (omega arith, rw (v, l.invariant.1) (sets_more (λ (i : ℕ). whole_of (get_or (cells_of a.line.now) i [])) _ a.at l.i))

same_length : tie.Need-shape_of-list invariant-loop decreases-loop
same_length c = long c.before

returns : tie.Need-returns invariant-loop decreases-loop
returns c =
    let l = c.before.loop-i in
    let e : l.i ≡ c.before.before.before.args.n = omega arith in
    rw e at l.invariant.1

pub put_numbers_spec : {M : Type 1} → statement M
put_numbers_spec =
    tie.close
    (tie.spec
    invariant-loop
    decreases-loop
    loop-holds
    (λ c κs. search rules)
    (λ c κs. search rules)
    (λ c. search rules)
    (λ c. search rules)
    slice-set-from-list
    (λ c. search rules)
    (λ c. search rules)
    loop-again
    same_length
    returns)
