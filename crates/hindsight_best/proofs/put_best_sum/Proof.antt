-- The parts follow one another (put_three); the sum is small (sum_small). Assumes nothing.
use native.Mathlib.Omega.{arith}
use Rattle.composing.proofs.Puts.{put_three}
use Rattle.hindsight_places.proofs.Small.{sum_small}
use Rattle.hindsight_best.specs.Best.{best_sum}
use borrow.Author.Rules.{rules}
use Rattle.hindsight_best.proofs.put_best_sum.Statement.{statement}
use Rattle.hindsight_best.proofs.put_best_sum.Tie as tie

put-shown-number-requires : tie.Need-put_shown_number-c-requires
put-shown-number-requires c κs =
    let s = c.before.before.before.before.before.before.before.before.before.before.before in
    omega (arith, c.before.before.before.before.before.before.before.before.before.sum_of-sum.ensures, sum_small s.args.list.now s.requires.1 s.args.k s.args.a)

returns : tie.Need-returns
unfolding best_sum
returns c = put_three c.before.before.before.before.before.before.before.before.before.before.before.before.before.before.put_either-b.ensures (rw c.before.before.before.before.before.before.before.before.before.before.before.before.before.before.before.before.before.before.before.before.sum_of-sum.ensures at c.before.before.before.before.before.before.before.before.before.before.put_shown_number-c.ensures) c.before.before.put_either.ensures

pub put_best_sum_spec : {M : Type 1} → statement M
put_best_sum_spec =
    tie.close
    (tie.spec
    (λ c κs. search rules)
    (λ c κs. search rules)
    put-shown-number-requires
    (λ c κs. search rules)
    (λ c. search rules)
    returns)
