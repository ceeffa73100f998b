-- The loop's invariant: the entries of the positions before a are stored, and `at` is where they end. Assumes nothing.
use borrow.Author.Rules.{rules}
use mathlib.Core.Path.{◌≡◌, refl, ap, ◌∙◌}
use mathlib.Core.List.{List, ◌++◌}
use Prim.Native.Nat.{ℕ, ◌+◌, ◌-◌, ◌*◌, ◌≤◌}
use native.Mathlib.Nat.{mul-le-mul_right}
use native.Mathlib.Numerals.{add-one}
use native.Mathlib.Omega.{arith}
use lib.IntN.{ℤ}
use lib.ListN.{length, length-append}
use lib.Seq.{sets, length-sets}
use Rattle.rules.specs.Lists.{up_to, joined}
use Rattle.rules.specs.History.{separation_entries}
use Rattle.laws.proofs.Joined.{sets_append, joined_more}
use Rattle.totals.specs.Squares.{cut_of}
use Rattle.positions.proofs.Sizes.{entries_length}
use Rattle.history.proofs.fill_positions.Statement.{statement}
use Rattle.history.proofs.fill_positions.Tie as tie

abbrev entries : List (List ℤ) → ℕ → ℕ → List ℤ
entries rows k a = separation_entries (cut_of rows a k) k

abbrev invariant-loop : tie.invariant-loop-a
invariant-loop out₀ rows k n at₀ a₀ out at a =
    (a ≤ n)
    × (at ≡ a * (1 + 2 * (k + 1)))
    × (at ≡ length (joined (up_to (entries rows k) a)))
    × (out ≡ sets out₀ 0 (joined (up_to (entries rows k) a)))
    × (length out ≡ length out₀)

abbrev decreases-loop : tie.decreases-loop-a
decreases-loop out₀ rows k n at₀ a₀ out at a = n - a

loop-holds : tie.Need-loop-a-init invariant-loop decreases-loop
unfolding up_to joined
loop-holds c = (omega arith, omega arith, refl, refl, refl)

put-position-requires : tie.Need-put_position-at-requires invariant-loop decreases-loop
put-position-requires c κs =
    let l = c.before.before.loop-a in
    let s = c.before.before.before in
    let room : (l.a + 1) * (1 + 2 * (s.args.k + 1)) ≤ s.args.n * (1 + 2 * (s.args.k + 1)) = mul-le-mul_right (1 + 2 * (s.args.k + 1)) (omega arith) in
    (((s.requires.0.0, omega arith), s.requires.1.0), omega (arith, room, l.invariant.1, l.invariant.4, s.requires.1.1))

add_a : tie.Need-overflow_step-a invariant-loop decreases-loop
add_a c = search rules

loop-less : tie.Need-loop-a-smaller invariant-loop decreases-loop
loop-less c = search rules

loop-again : tie.Need-loop-a-preserved invariant-loop decreases-loop
loop-again c =
    let l = c.before.before.before.before.loop-a in
    let s = c.before.before.before.before.before in
    let put = c.before.put_position-at in
    let f = entries s.args.rows.now s.args.k in
    let long = entries_length (cut_of s.args.rows.now l.a s.args.k) s.args.k s.requires.1.0 in
    let more : joined (up_to f (l.a + 1)) ≡ joined (up_to f l.a) ++ f l.a = rw (add-one l.a) (joined_more f l.a) in
    let stored : put.new.out ≡ sets s.args.out.now 0 (joined (up_to f (l.a + 1)))
    = put.ensures.1 ∙ rw (l.invariant.3, more) (sets_append (joined (up_to f l.a)) (f l.a) s.args.out.now 0 l.at (omega (arith, l.invariant.2))) in (
      omega arith,
      omega (arith, put.ensures.0, l.invariant.1),
      rw more (omega (arith, put.ensures.0, l.invariant.2, long, length-append (joined (up_to f l.a)) (f l.a))),
      stored,
      ap length stored ∙ simp length-sets,
    )

same_length : tie.Need-shape_of-out invariant-loop decreases-loop
same_length c = search rules

returns : tie.Need-returns invariant-loop decreases-loop
returns c =
    let e : c.before.loop-a.a ≡ c.before.before.args.n = omega arith in
    rw e at c.before.loop-a.invariant.3

pub fill_positions_spec : {M : Type 1} → statement M
fill_positions_spec = tie.close (tie.spec invariant-loop decreases-loop loop-holds put-position-requires add_a loop-less loop-again same_length returns)
