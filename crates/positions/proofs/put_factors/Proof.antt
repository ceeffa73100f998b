-- Three runs of stores, one after another. Assumes nothing.
use borrow.Author.Rules.{rules}
use mathlib.Core.Path.{◌≡◌}
use mathlib.Core.List.{[], ◌∷◌, map}
use native.Mathlib.Omega.{arith}
use lib.IntN.{pos}
use lib.ListN.{length, take}
use lib.Seq.{sets}
use Rattle.laws.proofs.Joined.{sets_append}
use Rattle.entries.proofs.Runs.{length_naturals}
use Rattle.positions.proofs.put_factors.Statement.{statement}
use Rattle.positions.proofs.put_factors.Tie as tie

put-natural-requires : tie.Need-put_natural-first-requires
put-natural-requires c κs = search rules

put-naturals-requires : tie.Need-put_naturals-next-requires
put-naturals-requires c κs =
    let small = c.before.before.before.before.before.requires.1.1.0 in
    (omega arith, (omega arith, λ i h. omega (arith, small i)))

put-naturals-requires-2 : tie.Need-put_naturals-requires
put-naturals-requires-2 c κs =
    let small = c.before.before.before.before.before.before.before.before.before.requires.1.1.1 in
    (omega arith, (omega arith, λ i h. omega (arith, small i)))

same_length : tie.Need-shape_of-out
same_length c = search rules

returns : tie.Need-returns
returns c =
    let after-shares = c.before.before.before.before.before in
    let after-answer = after-shares.before.before.before.before in
    let s = after-answer.before.before in
    let n = s.args.n in
    let out = s.args.out.now in
    let shares = map pos (take n s.args.shares.now) in
    let levels = map pos (take n s.args.levels.now) in
    let first = after-answer.put_natural-first in
    let second = after-shares.put_naturals-next in
    let long : length shares ≡ n = length_naturals n s.args.shares.now (omega (arith, after-shares.before.put_naturals-arg-2-1.given)) in
    let numbered : sets (sets out s.args.at (pos s.args.answer ∷ [])) first.result shares ≡ sets out s.args.at (pos s.args.answer ∷ shares)
    = sets_append (pos s.args.answer ∷ []) shares out s.args.at first.result (omega (arith, first.ensures.0)) in (
      omega (arith, c.before.put_naturals.ensures.0, second.ensures.0, first.ensures.0),
      rw (c.before.put_naturals.ensures.1, second.ensures.1, first.ensures.1, numbered)
          (sets_append (pos s.args.answer ∷ shares) levels out s.args.at second.result (omega (arith, second.ensures.0, first.ensures.0))),
    )

pub put_factors_spec : {M : Type 1} → statement M
put_factors_spec = tie.close (tie.spec put-natural-requires put-naturals-requires put-naturals-requires-2 same_length returns)
