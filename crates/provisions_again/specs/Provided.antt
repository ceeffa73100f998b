-- What is worked out again of a record s that is refused by a question from 11 on: what it has passed, and its provisions. Assumes nothing.
use Rattle.std.specs.Prelude.{ℕ, ◌≡◌, true, List, replicate}
use Rattle.std.proofs.lemmas.List.Edits.{sets}
use Rattle.rules.specs.Lists.{up_to}
use Rattle.rules.specs.Questions.{first_no}
use Rattle.rules.specs.Record.{Figures, figures_of}
use Rattle.rules.specs.Reading.{opening_questions, field_questions}
use Rattle.rules.specs.Triangle.{cumulatives_pass}
use Rattle.rules.specs.Separation.{separate_answer}
use Rattle.rules.specs.Tail.{tail_questions}
use Rattle.rules.specs.Completion.{provision, ultimates_pass}
use Rattle.rules.specs.Expense.{paid_total, ulae_total, ratio_pass}
use Rattle.rules.specs.Growth.{latest_paid_passes}
use Rattle.rules.specs.Results.{square_of, factors_in, first_tail_average_of, paid_in, levels_in, tails_in, provisions_in, latest_paid_in}
use Rattle.rules.specs.Engine.{development_passes}
use Rattle.completion.specs.Asked.{rows_asked}

-- a record that has passed the questions before 11
pub record Carried (s : List ℕ) : Type 0 where
  pub opening : first_no (opening_questions s) ≡ 0
  pub fields : first_no (field_questions s) ≡ 0
  pub cumulatives : cumulatives_pass (figures_of s).k (figures_of s).increments ≡ true
  pub development : development_passes (figures_of s) ≡ true
  pub separation : separate_answer (square_of (figures_of s)) (figures_of s).k ≡ 0
  pub tail : first_no (tail_questions (figures_of s).k (first_tail_average_of (figures_of s)) (figures_of s).indices) ≡ 0

-- and 11, 12 and 15 where they are put
pub record Corrects (s : List ℕ) : Type 0 where
  pub carried : Carried s
  pub ultimates : ultimates_pass (figures_of s).k (paid_in (figures_of s)) (provisions_in (figures_of s)) ≡ true
  pub ratio : ratio_pass (paid_total (figures_of s).k (figures_of s).increments) (ulae_total (figures_of s).k (figures_of s).ulae) ≡ true
  pub latest : latest_paid_passes (latest_paid_in (figures_of s)) ≡ true

-- the provisions of the years whose ultimate is asked for, up to the first that is too large, zero past them
unfoldable pub provisions_asked : Figures → List ℕ
provisions_asked f =
    let n = f.exposures in
    let r = (factors_in f).shares in
    sets (replicate 16 0) 0 (up_to (provision f.k n r (levels_in f) (tails_in f)) (rows_asked f.k n r (levels_in f) (tails_in f) (paid_in f)))
