-- The hindsight run of a record with the settings of a line: its report, or what is said where there is none. Assumes nothing.
use Rattle.std.specs.Prelude.{ℕ, ◌≤◌, ◌≡◌, Bool, cond, ◌&&◌, List, ◌++◌, eqb, ℤ, length}
use Rattle.rules.specs.Lists.{padded}
use Rattle.rules.specs.Record.{last_year_of, figures_of}
use Rattle.rules.specs.Hindsight.{most_settings, most_hindsight, hindsight_answer, hindsight_of}
use Rattle.composing.specs.Text.{ascii, decimal}
use Rattle.wording.specs.Wording.{refusal_text}
use Rattle.settings_line.specs.Settings.{wrong_word, settings_of}
use Rattle.hindsight_run.specs.declared.Listed.{Listed}

-- the number that the call answers, with a report that holds the longest one
unfoldable pub answer_of : List ℕ → List ℕ → ℕ
answer_of line packed = hindsight_answer packed (settings_of line) most_hindsight

-- whether there is a report: every word of the line is a whole number, and the call accepts
unfoldable pub has_report : List ℕ → List ℕ → Bool
has_report line packed = eqb (wrong_word line) 0 && eqb (answer_of line packed) 0

-- the report
unfoldable pub report_of : List ℕ → List ℕ → List ℤ
report_of line packed = hindsight_of (figures_of packed) (settings_of line)

-- what is wrong with the settings, by the place of a word
unfoldable pub wrong_text : ℕ → List ℕ
wrong_text n = ascii "settings: word " ++ (decimal n ++ ascii " is no whole number of millionths (1000000 is an index of 1)\n")

-- the line of a refusal; question 29 is asked of hindsight runs alone
unfoldable pub refused_text : ℕ → List ℕ
refused_text n =
    cond (eqb n 29) (ascii "refused 29: there are no settings or more than 8, one is not from 1 to 5,000,000, or k is 1\n") (refusal_text n)

-- what is said where there is no report: what is wrong with the settings, since there is nothing to call with then, and otherwise the refusal
unfoldable pub said_of : List ℕ → List ℕ → List ℕ
said_of line packed = cond (eqb (wrong_word line) 0) (refused_text (answer_of line packed)) (wrong_text (wrong_word line))

-- what is found where there is a report: k, how many settings there are, and the settings, zero past them
pub record Found (line packed : List ℕ) (r : Listed) : Type 0 where
  pub years : r.k ≡ last_year_of packed
  pub years_few : r.k ≤ 15
  pub tried : r.count ≡ length (settings_of line)
  pub settings : r.settings ≡ padded most_settings 0 (settings_of line)
