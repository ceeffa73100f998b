-- What a run of the engine on the record s in a valuation year leaves, and what corrects its ULAE ratio. Assumes nothing.
use Rattle.std.specs.Prelude.{ℕ, ◌≤◌, cond, List, ℤ, pos, nat_abs, replicate}
use Rattle.rules.specs.Record.{Figures, figures_of}
use Rattle.rules.specs.Growth.{corrects}
use Rattle.rules.specs.Results.{most_entries, plain_ratio_in, latest_reported_in, latest_paid_in, divisor_in}
use Rattle.rules.specs.Engine.{run_into}
use Rattle.growth.specs.declared.Correction.{Correction}

-- the list that the engine fills, of as many entries as are enough for every k
abbrev pub filled_by : ℕ → List ℕ → List ℤ
filled_by year s = run_into year s (replicate most_entries (pos 0))

-- the plain ULAE ratio, and where the year's is corrected B, Y, which is at least 1 then, and the divisor of an accepted run; zeros where it is not
unfoldable pub correction_in : ℕ → Figures → Correction
correction_in year f = record {
  plain = plain_ratio_in f;
  reported = cond (corrects year) (latest_reported_in f) 0;
  paid = cond (corrects year) (nat_abs (latest_paid_in f)) 0;
  divisor = cond (corrects year) (divisor_in f) 0;
}

abbrev pub correction_by : ℕ → List ℕ → Correction
correction_by year s = correction_in year (figures_of s)

-- the most of the four, 2 × 10^18, which a signed number holds
abbrev pub most_correction : ℕ
most_correction = 2000000000000000000

pub record InRange (x : Correction) : Type 0 where
  pub plain : x.plain ≤ most_correction
  pub reported : x.reported ≤ most_correction
  pub paid : x.paid ≤ most_correction
  pub divisor : x.divisor ≤ most_correction
