-- What corrects a ratio, and the figures of questions 16 and 17 of the figures f where they say no. Assumes nothing.
use Rattle.std.specs.Prelude.{◌*◌, ◌≤◌, nat_abs, pos}
use Rattle.rules.specs.Record.{Figures, million, most_amount}
use Rattle.rules.specs.Completion.{most_ultimate}
use Rattle.rules.specs.Growth.{corrected_ratio}
use Rattle.rules.specs.Results.{plain_ratio_in, latest_reported_in, latest_paid_in, divisor_in}
use Rattle.outcomes.specs.Outcome.{most_correction}
use Rattle.correction_findings.specs.declared.Parts.{Parts}
use Rattle.finding.specs.Places.{nowhere, found}
use Rattle.finding.specs.declared.Finding.{Finding}

-- the weight, the plain ratio, B, Y, which is at least 1, and the divisor
unfoldable pub parts_in : Figures → Parts
parts_in f = record {
  weight = f.weight;
  plain = plain_ratio_in f;
  reported = latest_reported_in f;
  paid = nat_abs (latest_paid_in f);
  divisor = divisor_in f;
}

-- each within its limit
pub record Small (x : Parts) : Type 0 where
  pub weight : x.weight ≤ million
  pub plain : x.plain ≤ million
  pub reported : x.reported ≤ most_ultimate
  pub paid : x.paid ≤ 16 * most_amount
  pub divisor : x.divisor ≤ most_correction

-- 16: the weight, B and Y
unfoldable pub divisor_finding : Figures → Finding
divisor_finding f = found nowhere 0 0 (pos f.weight) (pos (latest_reported_in f)) (latest_paid_in f)

-- 17: the plain ratio, the divisor and the corrected ratio
unfoldable pub corrected_finding : Figures → Finding
corrected_finding f = found nowhere 0 0 (pos (plain_ratio_in f)) (pos (divisor_in f)) (pos (corrected_ratio (plain_ratio_in f) (divisor_in f)))
