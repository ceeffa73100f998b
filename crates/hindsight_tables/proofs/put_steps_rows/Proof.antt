-- There is room for the words (words_most). Assumes nothing.
use mathlib.Core.Path.{sym}
use native.Mathlib.Omega.{arith}
use lib.Seq.{length-take-le}
use Rattle.composing.proofs.Puts.{put_length, put_back}
use Rattle.hindsight_heads.proofs.Lengths.{words_most}
use Rattle.hindsight_tables.specs.Tables.{steps_rows}
use borrow.Author.Rules.{rules}
use Rattle.hindsight_tables.proofs.put_steps_rows.Statement.{statement}
use Rattle.hindsight_tables.proofs.put_steps_rows.Tie as tie

slice-aggregate-put-grid : tie.Need-slice_bounds-put_grid-end
slice-aggregate-put-grid c = sym (length-take-le _ _ (omega (arith, c.before.before.before.put_steps_words-end.ensures.ended, put_length c.before.before.before.put_steps_words-end.ensures)))

returns : tie.Need-returns
unfolding steps_rows
returns c =
    let words = put_back c.before.before.before.before.before.before.put_steps_words-end.ensures (omega (arith, words_most c.before.before.before.before.before.before.before.before.before.args.n c.before.before.before.before.before.before.before.before.before.requires.0.few)) in
    rw words at c.before.before.put_grid.ensures

pub put_steps_rows_spec : {M : Type 1} → statement M
put_steps_rows_spec =
    tie.close
    (tie.spec
    (λ c. search rules)
    (λ c κs. search rules)
    (λ c. search rules)
    slice-aggregate-put-grid
    (λ c. search rules)
    (λ c κs. search rules)
    (λ c. search rules)
    returns)
