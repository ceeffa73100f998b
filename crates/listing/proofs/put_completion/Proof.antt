-- The future levels, the payments, the provisions and their total follow one another (sets_append and three_runs). Assumes nothing.
use borrow.Author.Rules.{rules}
use native.Mathlib.Omega.{arith}
use mathlib.Core.Path.{◌≡◌, ◌∙◌}
use mathlib.Core.List.{[], ◌∷◌, ◌++◌, map}
use Prim.Native.Nat.{◌+◌, ◌-◌}
use lib.IntN.{pos}
use lib.ListN.{length, take, length-append}
use lib.Seq.{sets}
use Rattle.rules.specs.Lists.{total, joined}
use Rattle.rules.specs.Record.{cells}
use Rattle.laws.proofs.Lists.{total_take}
use Rattle.laws.proofs.Joined.{sets_append}
use Rattle.rules.specs.Results.{completion_sections}
use Rattle.entries.proofs.Runs.{length_naturals}
use Rattle.laws.proofs.TriangleRows.{cells_least}
use Rattle.listing.proofs.Sections.{small_total, future_cells_most, three_runs, three_length}
use Rattle.listing.proofs.put_completion.Statement.{statement}
use Rattle.listing.proofs.put_completion.Tie as tie

add-n : tie.Need-overflow_add-n
add-n c = search rules

put-naturals-requires : tie.Need-put_naturals-a-requires
put-naturals-requires c κs =
    let s = c.before.before in
    (omega arith, (omega arith, λ i h. omega (arith, s.requires.1.1.0 i)))

cells-of-requires : tie.Need-cells_of-requires
cells-of-requires c κs = search rules

sub-put-naturals : tie.Need-overflow_sub-cells_of
sub-put-naturals c = omega (arith, cells_least c.before.before.before.before.before.before.before.args.k)

put-naturals-requires-2 : tie.Need-put_naturals-b-requires
put-naturals-requires-2 c κs =
    let s = c.before.before.before.before.before.before.before in
    let k = s.args.k in
    (omega (arith, future_cells_most k s.requires.0), (omega (arith, cells_least k), λ i h. omega (arith, s.requires.1.1.1.0 i)))

put-naturals-requires-3 : tie.Need-put_naturals-c-requires
put-naturals-requires-3 c κs =
    let s = c.before.before.before.before.before.before.before.before.before.before.before in
    (omega arith, (omega (arith, cells_least s.args.k), λ i h. omega (arith, s.requires.1.1.1.1 i)))

sum-of-requires : tie.Need-sum_of-requires
sum-of-requires c κs =
    let s = c.before.before.before.before.before.before.before.before.before.before.before.before.before.before.before in
    (omega arith, (omega arith, λ i h. s.requires.1.1.1.1 i))

put-natural-requires : tie.Need-put_natural-requires
put-natural-requires c κs =
    let s = c.before.before.before.before.before.before.before.before.before.before.before.before.before.before.before.before in
    let k = s.args.k in
    let provisions = s.args.provisions.now in
    let all = small_total provisions s.requires.1.1.1.1 (k + 1) (omega (arith, s.requires.0)) in
    (omega (arith, cells_least k), omega (arith, c.sum_of.ensures, total_take provisions k))

same_length : tie.Need-shape_of-out
same_length c = search rules

returns : tie.Need-returns
unfolding completion_sections joined
returns c =
    let after-provisions = c.before.before.before.before.before.before in
    let after-payments = after-provisions.before.before.before.before in
    let after-levels = after-payments.before.before.before.before.before in
    let s = after-levels.before.before.before in
    let k = s.args.k in
    let at = s.args.at in
    let out = s.args.out.now in
    let levels = s.args.levels.now in
    let payments = s.args.payments.now in
    let provisions = s.args.provisions.now in
    let n = cells k - (k + 1) in
    let a = map pos (take k levels) in
    let b = map pos (take n payments) in
    let d = map pos (take (k + 1) provisions) in
    let e = pos (total (take (k + 1) provisions)) ∷ [] in
    let first = after-levels.put_naturals-a in
    let second = after-payments.put_naturals-b in
    let third = after-provisions.put_naturals-c in
    let size = after-payments.before.cells_of.ensures.0 in
    let sa : length a ≡ k = length_naturals k levels (omega (arith, after-levels.before.put_naturals-arg-2-1.given, s.requires.0)) in
    let sb : length b ≡ n =
    length_naturals n payments (omega (arith, after-payments.before.before.put_naturals-arg-4-1.given, future_cells_most k s.requires.0)) in
    let sd : length d ≡ k + 1 =
    length_naturals (k + 1) provisions (omega (arith, after-provisions.before.put_naturals-arg-6-1.given, s.requires.0)) in
    let p : first.result ≡ at + length a = omega (arith, first.ensures.0) in
    let q : second.result ≡ first.result + length b = omega (arith, second.ensures.0, size) in
    let r : third.result ≡ second.result + length d = omega (arith, third.ensures.0) in (
      omega (arith, c.before.put_natural.ensures.0, cells_least k),
      (
        three_length a b (d ++ e) at p q (omega (arith, c.before.put_natural.ensures.0, length-append d e)),
        rw (c.before.put_natural.ensures.1, third.ensures.1, second.ensures.1, first.ensures.1, c.before.before.sum_of.ensures, size)
            (three_runs b d e (sets out at a) first.result q r ∙ sets_append a (b ++ (d ++ e)) out at first.result p),
      ),
    )

pub put_completion_spec : {M : Type 1} → statement M
put_completion_spec =
    tie.close
    (tie.spec
    add-n
    put-naturals-requires
    cells-of-requires
    sub-put-naturals
    put-naturals-requires-2
    put-naturals-requires-3
    sum-of-requires
    put-natural-requires
    same_length
    returns)
