-- The words of a refusal, or the list that the engine filled. Assumes nothing.
use Prim.Native.Nat.{ℕ}
use borrow.Author.Tests.{ne_eqb}
use mathlib.Core.Path.{◌≡◌, sym, ◌∙◌}
use mathlib.Core.List.{List}
use lib.IntN.{ℤ}
use Rattle.rules.specs.Record.{last_year_of}
use Rattle.rules.specs.Results.{most_entries}
use Rattle.rules.specs.Engine.{run_answer}
use Rattle.growth.specs.declared.Correction.{Correction}
use Rattle.refusals.specs.Refusal.{refusal_of}
use Rattle.refusals.proofs.Words.{refused_by}
use Rattle.composing.proofs.Puts.{put_same}
use Rattle.csv_text.specs.Csv.{csv_of}
use Rattle.outcomes.specs.Outcome.{filled_by, correction_by}
use Rattle.outcomes.proofs.Passed.{accepted, some}
use Rattle.csv_report.specs.Report.{csv_report_of}
use borrow.Author.Rules.{rules}
use Rattle.csv_report.proofs.put_run.Statement.{statement}
use Rattle.csv_report.proofs.put_run.Tie as tie

module _ (year : ℕ) (s : List ℕ) where
  refused-is : (n : ℕ) → n ≡ run_answer year s most_entries → (n ≡ 0 → ⊥) → refusal_of s n ≡ csv_report_of year s
  unfolding csv_report_of
  refused-is n e h = rw (ne_eqb (run_answer year s most_entries) 0 (λ z. h (e ∙ z)), e)

  list_is : (k : ℕ) (list : List ℤ) (x : Correction) → run_answer year s most_entries ≡ 0 → k ≡ last_year_of s → list ≡ filled_by year s → x ≡ correction_by year s
      → csv_of year k list x ≡ csv_report_of year s
  unfolding csv_report_of
  list_is k list x ok e g h = rw (h, g, e, ok)

put-refused-requires : tie.Need-put_refused-end-requires
put-refused-requires c κs =
    let run = c.before.before.before.doonamurk_run-answer in
    let s = c.before.before.before.before.before.before.before.args in
    refused_by s.year s.packed.now run.result run.ensures.0

returns : tie.Need-returns-then-answer-ne0
returns c =
    let run = c.before.before.before.before.before.before.doonamurk_run-answer in
    let s = c.before.before.before.before.before.before.before.before.before.before.args in
    (run.ensures.0, put_same (refused-is s.year s.packed.now run.result run.ensures.0 c.before.before.before.before.if-answer-ne0.true) c.before.before.put_refused-end.ensures)

last-year-of-requires : tie.Need-last_year_of-requires
last-year-of-requires c κs =
    let run = c.before.before.before.before.before.before.before.doonamurk_run-answer in
    let s = c.before.before.before.before.before.before.before.before.before.before.before.args in
    some s.year s.packed.now (accepted s.year s.packed.now (sym run.ensures.0 ∙ c.before.before.before.before.before.if-answer-ne0.false))

returns-2 : tie.Need-returns
returns-2 c =
    let run = c.before.before.before.before.before.before.before.before.before.before.before.doonamurk_run-answer in
    let s = c.before.before.before.before.before.before.before.before.before.before.before.before.before.before.before.args in
    let year = c.before.before.before.last_year_of in
    let ok = sym run.ensures.0 ∙ c.before.before.before.before.before.before.before.before.before.if-answer-ne0.false in
    (run.ensures.0, put_same (list_is s.year s.packed.now year.result _ _ ok year.ensures.0 run.ensures.1.0 c.before.before.before.before.before.before.read_accepted-correction.ensures.0) c.before.before.put_csv-end.ensures)

pub put_run_spec : {M : Type 1} → statement M
put_run_spec =
    tie.close
    (tie.spec
    (λ c. search rules)
    (λ c κs. search rules)
    put-refused-requires
    (λ c. search rules)
    returns
    (λ c κs. search rules)
    last-year-of-requires
    (λ c κs. search rules)
    (λ c. search rules)
    returns-2)
