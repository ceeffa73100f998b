-- The loop's invariant: the rows before i are stored, one after another from place 0 on, and `at` is where row i starts. Assumes nothing.
use borrow.Author.Rules.{rules}
use native.Mathlib.Omega.{arith}
use mathlib.Core.Path.{◌≡◌, refl, ap, ◌∙◌}
use mathlib.Core.List.{[]}
use Prim.Native.Nat.{◌+◌, ◌-◌, ◌≤◌}
use lib.ListN.{length, get_or, take}
use lib.Seq.{sets, length-sets}
use Rattle.rules.specs.Lists.{up_to, joined}
use Rattle.rules.specs.Triangle.{row_start}
use Rattle.listing.specs.Starts.{average_row_of}
use Rattle.laws.proofs.TriangleRows.{row_start_more, rows_all, row_within}
use Rattle.listing.proofs.Sections.{rows_more}
use Rattle.listing.proofs.put_averages.Statement.{statement}
use Rattle.listing.proofs.put_averages.Tie as tie

abbrev invariant-loop : tie.invariant-loop-i
invariant-loop out₀ square k at₀ n i₀ out at i =
    (i ≤ n) × (at ≡ row_start k i) × (out ≡ sets out₀ 0 (joined (up_to (average_row_of k square) i))) × (length out ≡ length out₀)

abbrev decreases-loop : tie.decreases-loop-i
decreases-loop out₀ square k at₀ n i₀ out at i = n - i

add-n : tie.Need-overflow_add-n invariant-loop decreases-loop
add-n c = search rules

loop-holds : tie.Need-loop-i-init invariant-loop decreases-loop
unfolding row_start joined up_to
loop-holds c = (omega arith, refl, refl, refl)

mul-put-integers : tie.Need-offset_bounds-square-i invariant-loop decreases-loop
mul-put-integers c = omega arith

index-1-put-integers : tie.Need-bounds-square-i invariant-loop decreases-loop
index-1-put-integers c = omega arith

sub-put-integers : tie.Need-overflow_sub-n invariant-loop decreases-loop
sub-put-integers c = omega arith

put-integers-requires : tie.Need-put_integers-at-requires invariant-loop decreases-loop
put-integers-requires c κs =
    let s = c.before.before.before.before in
    let i = c.before.before.before.loop-i.i in
    let long : length (get_or s.args.square.now i []) ≡ 16 = c.put_integers-arg-in-loop-i-1.given in
    (omega arith, omega (arith, row_within s.args.k i (omega arith)))

add-i : tie.Need-overflow_step-i invariant-loop decreases-loop
add-i c = omega arith

loop-less : tie.Need-loop-i-smaller invariant-loop decreases-loop
loop-less c = omega arith

loop-again : tie.Need-loop-i-preserved invariant-loop decreases-loop
loop-again c =
    let s = c.before.before.before.before.before.before in
    let l = c.before.before.before.before.before.loop-i in
    let put = c.before.put_integers-at in
    let square = s.args.square.now in
    let long : length (get_or square l.i []) ≡ 16 = c.before.before.put_integers-arg-in-loop-i-1.given in
    let stored : put.new.out ≡ sets l.out l.at (take (s.args.k + 1 - l.i) (get_or square l.i [])) = put.ensures.1 in (
      omega arith,
      omega (arith, row_start_more s.args.k l.i),
      stored ∙ rw l.invariant.2 (rows_more s.args.k square s.args.out.now l.i l.at l.invariant.1 (omega arith)),
      ap length stored ∙ simp length-sets l.invariant.3,
    )

same_length : tie.Need-shape_of-out invariant-loop decreases-loop
same_length c = search rules

returns : tie.Need-returns invariant-loop decreases-loop
returns c =
    let k = c.before.before.args.k in
    let e : c.before.loop-i.i ≡ k + 1 = omega arith in
    (omega (arith, rw e at c.before.loop-i.invariant.1, rows_all k), rw e at c.before.loop-i.invariant.2)

pub put_averages_spec : {M : Type 1} → statement M
put_averages_spec =
    tie.close
    (tie.spec
    invariant-loop
    decreases-loop
    add-n
    loop-holds
    mul-put-integers
    index-1-put-integers
    sub-put-integers
    put-integers-requires
    add-i
    loop-less
    loop-again
    same_length
    returns)
