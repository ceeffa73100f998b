-- What was found in the text is shown. Assumes nothing.
use mathlib.Core.Path.{refl, sym}
use Rattle.titled_input.proofs.Inputs.{record-part}
use Rattle.history_reports.specs.Reported.{text_in, csv_of}
use Rattle.history_reports.proofs.Shown.{windowed, found_list}
use Rattle.history_reports.proofs.csv_history.Goals as goal

pub history_csv_of-requires : goal.history_csv_of-requires
history_csv_of-requires c =
    let input = c.args.input.now in
    let parts = c.parts_of-parts in
    let found = rw (record-part input parts.result parts.ensures) at c.in_ok-found.ensures in
    windowed (text_in input) (sym found.0) _ _ _ found.1.0.0 found.1.0.1 c.first_of.ensures.1

pub returns-clause-listed_value : goal.returns-clause-listed_value
unfolding csv_of
returns-clause-listed_value c =
    let input = c.args.input.now in
    let parts = c.parts_of-parts in
    let found = rw (record-part input parts.result parts.ensures) at c.in_ok-found.ensures in
    (found.0, (rw (c.first_of.ensures.0, found.1.0.0, found.1.0.1, found_list (text_in input) (sym found.0) _ _ refl found.1.1.0) at c.history_csv_of.ensures.upper_bound, tt))
