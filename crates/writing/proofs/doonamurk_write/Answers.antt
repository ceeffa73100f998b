-- Each question is asked as it stands, and the first that says no is answered. Assumes nothing.
use mathlib.Core.Path.{◌≡◌, sym, ◌∙◌}
use mathlib.Core.Bool.{true}
use native.Mathlib.Omega.{arith}
use native.Mathlib.Nat.{le_refl, le_trans}
use borrow.Author.Tests.{eq-eqb, ne_eqb}
use lib.Dec.{lit≤}
use lib.ListN.{length}
use lib.Seq.{take-length}
use Rattle.rules.specs.Record.{Figures, figures, layout, million}
use Rattle.rules.specs.Writing.{given_last_year, given_lengths, given_sum}
use Rattle.recording.specs.Writable.{ranges_of}
use Rattle.laws.proofs.Lists.{at_most}
use Rattle.recording.proofs.RowsGiven.{few_years, lengths_are, ranges_are, ranges_hold}
use Rattle.writing.proofs.WriteAnswers.{answer_0, answer_1, answer_2, answer_4, answer_5, refused, accepted}
use Rattle.writing.proofs.doonamurk_write.Goals as goal
use Rattle.writing.proofs.doonamurk_write.Goals.{Else-not-given_last_year, Else-not-given_lengths, Else-not-given_ranges}

-- question 1 has said yes
abbrev from-1 : Else-not-given_last_year → Figures
from-1 c = figures c.args.k c.args.exposures.now c.args.increments.now c.args.indices.now c.args.reporting.now c.args.weight c.args.ulae.now c.args.tail

yes-1 : (c : Else-not-given_last_year) → given_last_year (from-1 c) ≡ true
unfolding given_last_year
yes-1 c = sym c.given_last_year.ensures ∙ c.if-not-given_last_year.false

-- question 2 has said yes
abbrev from-2 : Else-not-given_lengths → Figures
from-2 c = figures c.args.k c.args.exposures.now c.args.increments.now c.args.indices.now c.args.reporting.now c.args.weight c.args.ulae.now c.args.tail

yes-2 : (c : Else-not-given_lengths) → given_lengths (from-2 c) (length c.args.buffer.now) ≡ true
unfolding given_lengths layout
yes-2 c = sym c.given_lengths.ensures ∙ c.if-not-given_lengths.false

-- question 4 has said yes of each row
abbrev from-4 : Else-not-given_ranges → Figures
from-4 c = figures c.args.k c.args.exposures.now c.args.increments.now c.args.indices.now c.args.reporting.now c.args.weight c.args.ulae.now c.args.tail

yes-4 : (c : Else-not-given_ranges) → ranges_of (from-4 c) ≡ true
unfolding ranges_of
yes-4 c = sym c.given_ranges.ensures ∙ c.if-not-given_ranges.false

pub returns-then-not-given_last_year : goal.returns-then-not-given_last_year
unfolding given_last_year
returns-then-not-given_last_year c = refused _ c.args.buffer.now 0 (answer_1 _ (length c.args.buffer.now) (sym c.given_last_year.ensures ∙ c.if-not-given_last_year.true))

pub returns-then-not-given_lengths : goal.returns-then-not-given_lengths
unfolding given_lengths layout
returns-then-not-given_lengths c =
    let one = yes-1 (goal.at.returns-then-not-given_lengths c).Else-not-given_last_year in
    refused _ c.args.buffer.now 1 (answer_2 _ (length c.args.buffer.now) one (sym c.given_lengths.ensures ∙ c.if-not-given_lengths.true))

pub returns-then-not-given_ranges : goal.returns-then-not-given_ranges
unfolding ranges_of
returns-then-not-given_ranges c =
    let at = goal.at.returns-then-not-given_ranges c in
    let one = yes-1 at.Else-not-given_last_year in
    let two = yes-2 at.Else-not-given_lengths in
    let m = length c.args.buffer.now in
    refused _ c.args.buffer.now 3
    (answer_4 _ m one two (ranges_are _ m (lengths_are _ m two) one ∙ (sym c.given_ranges.ensures ∙ c.if-not-given_ranges.true)))

pub sum_of-requires : goal.sum_of-requires
sum_of-requires c =
    let at = goal.at.sum_of-requires c in
    let g = from-4 at.Else-not-given_ranges in
    let long = (lengths_are g (length c.args.buffer.now) (yes-2 at.Else-not-given_lengths)).reporting in
    let few = few_years g (yes-1 at.Else-not-given_last_year) in
    (le_refl _, (rw long (omega arith), λ i l. le_trans (at_most 0 million g.reporting (ranges_hold g (yes-4 at.Else-not-given_ranges)).reporting i) (lit≤ tt)))

pub returns-then-sum_of-ne-MILLION : goal.returns-then-sum_of-ne-MILLION
unfolding given_sum
returns-then-sum_of-ne-MILLION c =
    let at = goal.at.returns-then-sum_of-ne-MILLION c in
    let g = from-4 at.Else-not-given_ranges in
    let m = length c.args.buffer.now in
    let one = yes-1 at.Else-not-given_last_year in
    let two = yes-2 at.Else-not-given_lengths in
    let four = ranges_are g m (lengths_are g m two) one ∙ yes-4 at.Else-not-given_ranges in
    let sum = sym (rw (take-length c.args.reporting.now) at c.sum_of.ensures) in
    refused g c.args.buffer.now 4 (answer_5 g m one two four (ne_eqb _ _ (λ e. c.if-sum_of-ne-MILLION.true (sym sum ∙ e))))

pub put_record-requires : goal.put_record-requires
put_record-requires c =
    let at = goal.at.put_record-requires c in
    record { years = yes-1 at.Else-not-given_last_year; lengths = yes-2 at.Else-not-given_lengths; ranges = yes-4 at.Else-not-given_ranges }

pub returns : goal.returns
unfolding given_sum
returns c =
    let at = goal.at.returns c in
    let g = from-4 at.Else-not-given_ranges in
    let m = length c.args.buffer.now in
    let one = yes-1 at.Else-not-given_last_year in
    let two = yes-2 at.Else-not-given_lengths in
    let four = ranges_are g m (lengths_are g m two) one ∙ yes-4 at.Else-not-given_ranges in
    let sum = sym (rw (take-length c.args.reporting.now) at c.sum_of.ensures) in
    accepted g c.args.buffer.now (answer_0 g m one two four (eq-eqb _ _ (sum ∙ c.if-sum_of-ne-MILLION.false))) c.put_record.ensures
