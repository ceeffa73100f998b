-- The loop's invariant: N and Q of the first i rows are stored, each from its place on, the sum is that of these Q, at most 10^12 each, and `after` is
-- B of row i. Assumes nothing.
use borrow.Author.Rules.{rules}
use mathlib.Core.Path.{◌≡◌, refl, ◌∙◌}
use mathlib.Core.List.{List, [], ◌∷◌, ◌++◌, append_assoc}
use Prim.Native.Nat.{ℕ, ◌+◌, ◌-◌, ◌*◌, ◌/◌, ◌^◌, ◌≤◌, ◌<◌}
use native.Mathlib.Numerals.{add-one}
use native.Mathlib.Omega.{arith}
use lib.IntN.{ℤ, pos}
use lib.ListN.{length, get_or, set, length-set, length-append}
use lib.Seq.{sets}
use mir.Syntax.{w64}
use mir.ValLaws.{to_z_pos}
use Rattle.rules.specs.Lists.{total, up_to, joined}
use Rattle.rules.specs.Record.{million}
use Rattle.rules.specs.Completion.{most_ultimate, ultimate}
use Rattle.rules.specs.Expense.{reported_after, not_reported, reserve}
use Rattle.rules.specs.Results.{reserve_sections}
use Rattle.laws.proofs.Lists.{length_up_to, map_up_to}
use Rattle.laws.proofs.Totals.{total_more}
use Rattle.laws.proofs.Joined.{sets_append, both_more}
use Rattle.expense.proofs.ReservesMost.{reported_more, reported_most, product_most, provision_most}
use Rattle.expense.proofs.put_reserves.Statement.{statement}
use Rattle.expense.proofs.put_reserves.Tie as tie

-- both runs, the total and the ratio after them are the sections
finished : (f g : ℕ → ℕ) (ratio : ℕ) (l : List ℤ) (at n : ℕ)
    → set (set (sets (sets l at (up_to (λ j. pos (f j)) n)) (at + n) (up_to (λ j. pos (g j)) n)) (at + 2 * n) (pos (total (up_to g n)))) (at + 2 * n + 1) (pos ratio)
    ≡ sets l at (joined (reserve_sections (up_to f n) (up_to g n) ratio))
unfolding reserve_sections joined
finished f g ratio l at n =
    let fs : List ℤ = up_to (λ (j : ℕ). pos (f j)) n in
    let gs : List ℤ = up_to (λ (j : ℕ). pos (g j)) n in
    let last : List ℤ = pos (total (up_to g n)) ∷ pos ratio ∷ [] in
    let long = length_up_to (λ (j : ℕ). pos (f j)) n in
    let wide = length_up_to (λ (j : ℕ). pos (g j)) n in
    rw (map_up_to pos f n, map_up_to pos g n, sets_append fs gs l at (at + n) (omega arith), add-one (at + 2 * n), ← append_assoc fs gs last)
    (sets_append (fs ++ gs) last l at (at + 2 * n) (omega (arith, length-append fs gs)))

abbrev invariant-loop : tie.invariant-loop-i
invariant-loop out₀ at k paid provisions reporting weight ratio n after₀ total₀ i₀ out after sum i =
    (i ≤ n)
    × ((after ≡ reported_after k reporting i)
    × ((sum ≡ total (up_to (reserve k ratio weight reporting paid provisions) i))
    × ((sum ≤ i * most_ultimate)
    × ((length out ≡ length out₀)
    × (out
    ≡ sets (sets out₀ at (up_to (λ j. pos (not_reported k reporting paid provisions j)) i)) (at + n)
    (up_to (λ j. pos (reserve k ratio weight reporting paid provisions j)) i))))))

abbrev decreases-loop : tie.decreases-loop-i
decreases-loop out₀ at k paid provisions reporting weight ratio n after₀ total₀ i₀ out after sum i = n - i

add-n : tie.Need-overflow_add-n invariant-loop decreases-loop
add-n c = search rules

loop-holds : tie.Need-loop-i-init invariant-loop decreases-loop
unfolding reported_after up_to total
loop-holds c = (omega arith, (refl, (refl, (omega arith, (refl, refl)))))

mul-provision : tie.Need-offset_bounds-provisions-i invariant-loop decreases-loop
mul-provision c = omega arith

element-copy-out-provision : tie.Need-bounds-provisions-i invariant-loop decreases-loop
element-copy-out-provision c = omega arith

mul-open : tie.Need-offset_bounds-paid-i invariant-loop decreases-loop
mul-open c = omega arith

element-copy-out-open : tie.Need-bounds-paid-i invariant-loop decreases-loop
element-copy-out-open c = omega arith

add_open : tie.Need-overflow_add-open invariant-loop decreases-loop
unfolding ultimate
add_open c = omega (arith, c.before.before.before.before.before.before.requires.0.ultimates c.before.before.before.before.before.loop-i.i (omega arith))

-- X × B of row i
product : (c : tie.After-open-1 invariant-loop decreases-loop) →
    let s = c.before.before.before.before.before.before in
    let t = c.before.before.before.before.before.loop-i in
    (get_or s.args.paid.now t.i 0 + get_or s.args.provisions.now t.i 0) * t.after ≤ most_ultimate * million
unfolding ultimate
product c =
    let s = c.before.before.before.before.before.before in
    let t = c.before.before.before.before.before.loop-i in
    rw t.invariant.1.0 (product_most s.args.k s.args.paid.now s.args.provisions.now s.args.reporting.now s.args.weight s.args.ratio s.requires.0 t.i (omega arith))

-- N of row i
open_is : (c : tie.After-open-1 invariant-loop decreases-loop) →
    let s = c.before.before.before.before.before.before in
    let t = c.before.before.before.before.before.loop-i in
    (get_or s.args.paid.now t.i 0 + get_or s.args.provisions.now t.i 0) * t.after / million
    ≡ not_reported s.args.k s.args.reporting.now s.args.paid.now s.args.provisions.now t.i
unfolding not_reported ultimate
open_is c = rw c.before.before.before.before.before.loop-i.invariant.1.0

mul-open-2 : tie.Need-overflow_mul-open invariant-loop decreases-loop
mul-open-2 c = omega (arith, product c)

reserve-of-requires : tie.Need-reserve_of-amount-requires invariant-loop decreases-loop
reserve-of-requires c κs =
    let s = c.before.before.before.before.before.before in
    let t = c.before.before.before.before.before.loop-i in
    let part = provision_most s.args.k s.args.paid.now s.args.provisions.now s.args.reporting.now s.args.weight s.args.ratio s.requires.0 t.i (omega arith) in
    let most = s.requires.0 in
    (omega (arith, most.ratio, most.weight), (most.weight, (omega (arith, product c), omega (arith, product c, part))))

cast-out : tie.Need-overflow_cast-out invariant-loop decreases-loop
cast-out c = record { sfits = omega (arith, product c.before) }

add-out : tie.Need-overflow_add-out invariant-loop decreases-loop
add-out c = search rules

mul-out : tie.Need-offset_bounds-out-at invariant-loop decreases-loop
mul-out c = search rules

slice-set-from-out : tie.Need-bounds-out-at invariant-loop decreases-loop
slice-set-from-out c = search rules

cast-out-2 : tie.Need-overflow_cast-out-in-loop-i invariant-loop decreases-loop
cast-out-2 c = record { sfits = omega (arith, c.reserve_of-amount.ensures.1) }

add-t27 : tie.Need-overflow_add-at invariant-loop decreases-loop
add-t27 c = search rules

add-t18 : tie.Need-overflow_add-at-in-loop-i invariant-loop decreases-loop
add-t18 c = search rules

mul-t29 : tie.Need-offset_bounds-out-at-in-loop-i invariant-loop decreases-loop
mul-t29 c = search rules

slice-set-from-out-2 : tie.Need-bounds-out-at-in-loop-i invariant-loop decreases-loop
slice-set-from-out-2 c = simp length-set (omega arith)

add_total : tie.Need-overflow_add-total invariant-loop decreases-loop
add_total c = omega (arith, c.reserve_of-amount.ensures.1)

sub-after : tie.Need-overflow_sub-after invariant-loop decreases-loop
sub-after c = omega arith

mul-after : tie.Need-offset_bounds-reporting-k invariant-loop decreases-loop
mul-after c = omega arith

element-copy-out-after : tie.Need-bounds-reporting-k invariant-loop decreases-loop
element-copy-out-after c = omega arith

-- B of the row after i
next : (c : tie.After-after-1 invariant-loop decreases-loop) →
    let s = c.before.before.before.before.before.before.before.before.before in
    let t = c.before.before.before.before.before.before.before.before.loop-i in
    let b = s.args.reporting.now in
    (t.after + get_or b (s.args.k - t.i) 0 ≡ reported_after s.args.k b (t.i + 1)) × (t.after + get_or b (s.args.k - t.i) 0 ≤ million)
next c =
    let s = c.before.before.before.before.before.before.before.before.before in
    let t = c.before.before.before.before.before.before.before.before.loop-i in
    let more = reported_more s.args.k s.args.reporting.now t.i (omega arith) in
    let most = reported_most s.args.k s.args.paid.now s.args.provisions.now s.args.reporting.now s.args.weight s.args.ratio s.requires.0 (t.i + 1) (omega arith) in
    (omega arith, omega arith)

add-after : tie.Need-overflow_add-after invariant-loop decreases-loop
add-after c = omega (arith, next c)

add-i : tie.Need-overflow_step-i invariant-loop decreases-loop
add-i c = omega arith

loop-less : tie.Need-loop-i-smaller invariant-loop decreases-loop
loop-less c = omega arith

-- Q of row i
amount-is : (c : tie.After-reserve_of-amount invariant-loop decreases-loop) →
    let s = c.before.before.before.before.before.before.before in
    let t = c.before.before.before.before.before.before.loop-i in
    c.reserve_of-amount.result ≡ reserve s.args.k s.args.ratio s.args.weight s.args.reporting.now s.args.paid.now s.args.provisions.now t.i
unfolding reserve
amount-is c = c.reserve_of-amount.ensures.0 ∙ rw (open_is c.before)

loop-again : tie.Need-loop-i-preserved invariant-loop decreases-loop
loop-again c =
    let d = c.before.before in
    let s = d.before.before.before.before.before.before.before in
    let t = d.before.before.before.before.before.before.loop-i in
    let k = s.args.k in
    let p = s.args.paid.now in
    let q = s.args.provisions.now in
    let b = s.args.reporting.now in
    let f = not_reported k b p q in
    let g = reserve k s.args.ratio s.args.weight b p q in
    let part = (get_or p t.i 0 + get_or q t.i 0) * t.after / million in
    let small : part < 2 ^ 63 = omega (arith, product d.before) in
    let low : d.reserve_of-amount.result < 2 ^ 63 = omega (arith, d.reserve_of-amount.ensures.1) in
    let stored = both_more (λ (j : ℕ). pos (f j)) (λ (j : ℕ). pos (g j)) s.args.out.now s.args.at (k + 1) t.i (omega arith) in
    let inv = t.invariant.1.1.1.1 in (
      omega arith,
      (
        (next c).0,
        (
          rw (add-one t.i) (omega (arith, total_more g t.i, amount-is d)),
          (
            omega (arith, d.reserve_of-amount.ensures.1),
            (
              simp length-set inv.0,
              rw (to_z_pos w64 part small, to_z_pos w64 d.reserve_of-amount.result low, open_is d.before, amount-is d, inv.1) stored,
            ),
          ),
        ),
      ),
    )

mul-put-natural : tie.Need-overflow_mul-n invariant-loop decreases-loop
mul-put-natural c = omega arith

add-put-natural : tie.Need-overflow_add-at-2 invariant-loop decreases-loop
add-put-natural c = omega arith

put-natural-requires : tie.Need-put_natural-end-requires invariant-loop decreases-loop
put-natural-requires c κs = search rules

put-natural-requires-2 : tie.Need-put_natural-requires invariant-loop decreases-loop
put-natural-requires-2 c κs = search rules

same_length : tie.Need-shape_of-out invariant-loop decreases-loop
same_length c = search rules

returns : tie.Need-returns invariant-loop decreases-loop
returns c =
    let s = c.before.before.before.before.before.before.before.before in
    let t = c.before.before.before.before.before.before.before.loop-i in
    let one = c.before.before.before.before.put_natural-end.ensures in
    let two = c.before.put_natural.ensures in
    let k = s.args.k in
    let f = not_reported k s.args.reporting.now s.args.paid.now s.args.provisions.now in
    let g = reserve k s.args.ratio s.args.weight s.args.reporting.now s.args.paid.now s.args.provisions.now in
    let e : t.i ≡ k + 1 = omega arith in
    let sum : t.total ≡ total (up_to g (k + 1)) = rw e at t.invariant.1.1.0 in
    let stored = rw e at t.invariant.1.1.1.1.1 in
    (omega (arith, one.0, two.0), rw (two.1, one.0, one.1, sum, stored) (finished f g s.args.ratio s.args.out.now s.args.at (k + 1)))

pub put_reserves_spec : {M : Type 1} → statement M
put_reserves_spec =
    tie.close
    (tie.spec
    invariant-loop
    decreases-loop
    add-n
    loop-holds
    mul-provision
    element-copy-out-provision
    mul-open
    element-copy-out-open
    add_open
    mul-open-2
    reserve-of-requires
    cast-out
    add-out
    mul-out
    slice-set-from-out
    cast-out-2
    add-t27
    add-t18
    mul-t29
    slice-set-from-out-2
    add_total
    sub-after
    mul-after
    element-copy-out-after
    add-after
    add-i
    loop-less
    loop-again
    mul-put-natural
    add-put-natural
    put-natural-requires
    put-natural-requires-2
    same_length
    returns)
