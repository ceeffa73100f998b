-- The mark, which is small (mark_small), and then the gaps (put_append). Assumes nothing.
use native.Mathlib.Omega.{arith}
use Rattle.composing.proofs.Puts.{put_append}
use Rattle.hindsight_places.proofs.Small.{mark_small}
use Rattle.hindsight_csv.specs.Csv.{mark_line, step_lines}
use borrow.Author.Rules.{rules}
use Rattle.hindsight_csv.proofs.put_step_lines.Statement.{statement}
use Rattle.hindsight_csv.proofs.put_step_lines.Tie as tie

put-number-line-requires : tie.Need-put_number_line-gaps-requires
put-number-line-requires c κs =
    let s = c.before.before.before.before.before.before.before in
    omega (arith, c.before.before.before.before.before.mark_of-mark.ensures, mark_small s.args.list.now s.requires.1.1 s.args.k s.args.h)

returns : tie.Need-returns
unfolding step_lines mark_line
returns c = put_append (rw c.before.before.before.before.before.before.before.before.before.before.before.before.mark_of-mark.ensures at c.before.before.before.before.before.before.put_number_line-gaps.ensures) c.before.before.put_gap_lines.ensures

pub put_step_lines_spec : {M : Type 1} → statement M
put_step_lines_spec =
    tie.close
    (tie.spec
    (λ c κs. search rules)
    (λ c. search rules)
    (λ c. search rules)
    (λ c. search rules)
    put-number-line-requires
    (λ c κs. search rules)
    (λ c. search rules)
    returns)
