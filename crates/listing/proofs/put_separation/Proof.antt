-- The averages, the shares and the levels follow one another (three_runs). Assumes nothing.
use borrow.Author.Rules.{rules}
use native.Mathlib.Omega.{arith}
use mathlib.Core.Path.{◌≡◌, sym, ap, ◌∙◌}
use mathlib.Core.List.{map, append-nil}
use Prim.Native.Nat.{ℕ, ◌+◌}
use lib.IntN.{pos}
use lib.ListN.{length, take}
use Rattle.rules.specs.Lists.{up_to, joined}
use Rattle.rules.specs.Results.{separation_sections}
use Rattle.listing.specs.Starts.{average_row_of}
use Rattle.entries.proofs.Runs.{length_naturals}
use Rattle.listing.proofs.Sections.{three_runs, three_length, averages_length}
use Rattle.listing.proofs.put_separation.Statement.{statement}
use Rattle.listing.proofs.put_separation.Tie as tie

add-n : tie.Need-overflow_add-n
add-n c = search rules

put-averages-requires : tie.Need-put_averages-a-requires
put-averages-requires c κs = search rules

put-naturals-requires : tie.Need-put_naturals-b-requires
put-naturals-requires c κs =
    let small = c.before.before.before.before.before.requires.1.1 in
    (omega arith, (omega arith, λ i h. omega (arith, small.0 i, small.1 i)))

put-naturals-requires-2 : tie.Need-put_naturals-requires
put-naturals-requires-2 c κs =
    let small = c.before.before.before.before.before.before.before.before.before.requires.1.1 in
    (omega arith, (omega arith, λ i h. omega (arith, small.0 i, small.1 i)))

same_length : tie.Need-shape_of-out
same_length c = search rules

returns : tie.Need-returns
unfolding separation_sections joined
returns c =
    let after-shares = c.before.before.before.before.before in
    let after_averages = after-shares.before.before.before.before in
    let s = after_averages.before.before in
    let n = s.args.k + 1 in
    let square = s.args.square.now in
    let shares = s.args.shares.now in
    let a = joined (up_to (average_row_of s.args.k square) n) in
    let b = map pos (take n shares) in
    let levels = s.args.levels.now in
    let d = map pos (take n levels) in
    let first = after_averages.put_averages-a in
    let second = after-shares.put_naturals-b in
    let sb : length b ≡ n = length_naturals n shares (omega (arith, after-shares.before.put_naturals-arg-2-1.given, s.requires.0)) in
    let p : first.result ≡ 0 + length a = omega (arith, first.ensures.0, averages_length s.args.k square) in
    let q : second.result ≡ first.result + length b = omega (arith, second.ensures.0) in
    let sd : length d ≡ n = length_naturals n levels (omega (arith, c.before.before.put_naturals-arg-4-1.given, s.requires.0)) in (
      omega (arith, c.before.put_naturals.ensures.0),
      (
        rw (append-nil d)
            (omega (arith, three_length a b d 0 p q (c.before.put_naturals.ensures.0 ∙ ap (λ (m : ℕ). second.result + m) (sym sd)))),
        rw (c.before.put_naturals.ensures.1, second.ensures.1, first.ensures.1, append-nil d) (three_runs a b d s.args.out.now 0 p q),
      ),
    )

pub put_separation_spec : {M : Type 1} → statement M
put_separation_spec =
    tie.close
    (tie.spec
    add-n
    put-averages-requires
    put-naturals-requires
    put-naturals-requires-2
    same_length
    returns)
