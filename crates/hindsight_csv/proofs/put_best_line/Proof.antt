-- The line of the place (put-number-line), which is small (best_small). Assumes nothing.
use Prim.Native.Nat.{◌≤◌}
use native.Mathlib.Omega.{arith}
use Rattle.hindsight_places.specs.Places.{most_gap_sum}
use Rattle.hindsight_csv.specs.Csv.{best_line}
use Rattle.hindsight_csv.proofs.Best.{best_small}
use borrow.Author.Rules.{rules}
use Rattle.hindsight_csv.proofs.put_best_line.Statement.{statement}
use Rattle.hindsight_csv.proofs.put_best_line.Tie as tie

few : (b : tie.After-best_of-best) → b.best_of-best.result ≤ most_gap_sum
few b = let s = b.before.before in omega (arith, b.best_of-best.ensures, best_small s.args.list.now s.requires.1.1 s.args.k s.args.n)

add-put-number-line : tie.Need-overflow_add-best
add-put-number-line c = omega (arith, few c.before.before.before.before.before)

put-number-line-requires : tie.Need-put_number_line-requires
put-number-line-requires c κs = few c.before.before.before.before.before

returns : tie.Need-returns
unfolding best_line
returns c = rw c.before.before.before.before.before.before.before.before.best_of-best.ensures at c.before.before.put_number_line.ensures

pub put_best_line_spec : {M : Type 1} → statement M
put_best_line_spec =
    tie.close
    (tie.spec
    (λ c κs. search rules)
    add-put-number-line
    put-number-line-requires
    (λ c. search rules)
    returns)
