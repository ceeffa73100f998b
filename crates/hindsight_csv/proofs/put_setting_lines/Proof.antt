-- The steps, and then the sum, which is small (sum_small). Assumes nothing.
use native.Mathlib.Omega.{arith}
use Rattle.composing.proofs.Puts.{put_append}
use Rattle.hindsight_places.proofs.Small.{sum_small}
use Rattle.hindsight_csv.specs.Csv.{sum_line, setting_lines}
use borrow.Author.Rules.{rules}
use Rattle.hindsight_csv.proofs.put_setting_lines.Statement.{statement}
use Rattle.hindsight_csv.proofs.put_setting_lines.Tie as tie

put-number-line-requires : tie.Need-put_number_line-requires
put-number-line-requires c κs =
    let s = c.before.before.before.before.before.before.before.before.before.before.before in
    omega (arith, c.before.before.before.before.before.sum_of-value.ensures, sum_small s.args.list.now s.requires.1.1 s.args.k s.args.a)

returns : tie.Need-returns
unfolding setting_lines sum_line
returns c = put_append c.before.before.before.before.before.before.before.before.before.before.before.put_steps-sum.ensures (rw c.before.before.before.before.before.before.before.before.sum_of-value.ensures at c.before.before.put_number_line.ensures)

pub put_setting_lines_spec : {M : Type 1} → statement M
put_setting_lines_spec =
    tie.close
    (tie.spec
    (λ c κs. search rules)
    (λ c κs. search rules)
    (λ c. search rules)
    put-number-line-requires
    (λ c. search rules)
    returns)
