-- The text is shorter than its buffer (csv_most), so what was put there is all of it (put_back). Assumes nothing.
use native.Mathlib.Omega.{arith}
use mathlib.Core.Path.{◌∙◌}
use Rattle.composing.proofs.Puts.{put_length, put_back}
use Rattle.history_csv_lengths.proofs.Lines.{csv_most}
use borrow.Author.Rules.{rules}
use Rattle.history_csv_lengths.proofs.history_csv_of.Statement.{statement}
use Rattle.history_csv_lengths.proofs.history_csv_of.Tie as tie

returns : tie.Need-returns
returns c =
    let s = c.before.before in
    let a = s.args in
    let room = c.before.put_history_csv-arg-1.given.0.1 in
    let most = csv_most a.first a.years a.width a.list.now s.requires in (
      (omega (arith, most, c.put_history_csv.ensures.ended), put_back c.put_history_csv.ensures (omega (arith, most, room))),
      put_length c.put_history_csv.ensures ∙ room,
    )

pub history_csv_of_spec : {M : Type 1} → statement M
history_csv_of_spec =
    tie.close
    (tie.spec
    (λ c κs. search rules)
    returns)
