-- What a page and the values ask of an input that has a report. Assumes nothing.
use mathlib.Core.Path.{◌≡◌, refl, ◌∙◌}
use mathlib.Core.Bool.{true}
use mathlib.Core.List.{List}
use Prim.Native.Nat.{ℕ, ◌+◌, ◌-◌, ◌≤◌, ◌<◌}
use native.Mathlib.Omega.{arith}
use borrow.Author.Tests.{leb-true}
use lib.IntN.{ℤ, pos}
use lib.ListN.{length, get_or, replicate, get_or-append}
use lib.Seq.{sets, get_or-drop}
use Rattle.rules.specs.Lists.{padded, every}
use Rattle.rules.specs.Packing.{Fit}
use Rattle.rules.specs.Record.{figures_of}
use Rattle.rules.specs.Reading.{opening_questions, field_questions}
use Rattle.rules.specs.Hindsight.{most_settings, most_hindsight, hindsight_count, holds_report, hindsight_questions, hindsight_answer, hindsight_of}
use Rattle.laws.proofs.Questions.{yes_said}
use Rattle.laws.proofs.Joined.{sets_filled}
use Rattle.titled_input.specs.Titled.{title_end, rates_size, titled_record_in}
use Rattle.settings_line.specs.Settings.{settings_of}
use Rattle.hindsight_questions.proofs.Passed.{Settings}
use Rattle.hindsight_places.specs.Places.{Tried, best_at, GapsSmall, SettingsSmall}
use Rattle.hindsight_sizes.proofs.Sizes.{list_small}
use Rattle.hindsight_page.specs.Page.{Reported}
use Rattle.hindsight_run.specs.declared.Listed.{Listed}
use Rattle.hindsight_run.specs.Listed.{answer_of, report_of, Found}
use Rattle.hindsight_run.proofs.Outcomes.{accepted, asked}
use Rattle.hindsight_reports.specs.Reported.{line_in, packed_in, has_report_in, years_in, count_in, shown_settings, shown_report}
use Rattle.hindsight_reports.proofs.Reports.{list_length, best_inside}

module _ (input : List ℕ) (bytes : Fit 8 input) (has : has_report_in input ≡ true) where
  answer : answer_of (line_in input) (packed_in input) ≡ 0
  answer = accepted (line_in input) (packed_in input) has

  known : Settings (years_in input) (settings_of (line_in input))
  known = asked (line_in input) (packed_in input) answer

  -- k, the settings and the first year
  pub tried : (r : Listed) (first : ℕ) → Found (line_in input) (packed_in input) r → first < 65536 → Tried r.k r.count first
  tried r first found h =
      record {
        k_least = omega (arith, found.years, known.years);
        k_most = found.years_few;
        settings_least = omega (arith, found.tried, known.some);
        settings_most = omega (arith, found.tried, known.few);
        first_most = omega arith;
      }

  -- question 3 says that there is room for it
  holds : holds_report (years_in input) (count_in input) most_hindsight ≡ true
  unfolding answer_of hindsight_answer hindsight_questions opening_questions field_questions every
  holds = yes_said 3 (hindsight_questions (packed_in input) (settings_of (line_in input)) most_hindsight) refl answer

  room : length (report_of (line_in input) (packed_in input)) ≤ most_hindsight
  unfolding report_of hindsight_of holds_report figures_of
  room =
      let f = figures_of (packed_in input) in
      omega
      (arith, list_length (years_in input) f.exposures f.increments (omega (arith, known.years)) (settings_of (line_in input)), leb-true (hindsight_count (years_in input) (count_in input)) most_hindsight holds)

  -- the report in an array of zeros
  pub found_report : (list : List ℤ) → list ≡ sets (replicate most_hindsight (pos 0)) 0 (report_of (line_in input) (packed_in input)) → list ≡ shown_report input
  unfolding shown_report
  found_report list e = e ∙ sets_filled most_hindsight (pos 0) (report_of (line_in input) (packed_in input)) room

  -- its entries are small
  pub report_small : GapsSmall (shown_report input)
  unfolding shown_report report_of answer_of titled_record_in
  report_small =
      let at = title_end input + 1 + rates_size input in
      list_small (packed_in input) (settings_of (line_in input)) most_hindsight (λ i. rw (get_or-drop at input i) (bytes (at + i))) answer

  -- and its best setting is one of those tried
  shown_best : best_at (shown_report input) (years_in input) (count_in input) < count_in input
  unfolding shown_report report_of hindsight_of figures_of
  shown_best =
      let f = figures_of (packed_in input) in
      best_inside (years_in input) f.exposures f.increments (omega (arith, known.years)) (settings_of (line_in input)) known.some

  -- the settings in their array are in their range
  shown_indices : SettingsSmall (shown_settings input) (count_in input)
  unfolding padded
  shown_indices i h =
      rw (get_or-append (settings_of (line_in input)) (replicate (most_settings - count_in input) 0) 0 i h) (known.indices i)

  -- all that the page asks
  pub reported : (r : Listed) (first : ℕ) → Found (line_in input) (packed_in input) r → first < 65536 → Reported first r.k r.count r.settings (shown_report input)
  reported r first found h =
      rw found.settings
      record {
        tried = tried r first found h;
        indices = λ i l. shown_indices i (omega (arith, found.tried));
        best_inside = rw (found.years, found.tried) shown_best;
        small = report_small;
      }
