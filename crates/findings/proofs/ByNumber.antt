-- What question n found, by its number. Assumes nothing.
use Prim.Native.Nat.{ℕ}
use borrow.Author.Tests.{ne_eqb}
use mathlib.Core.Path.{◌≡◌}
use mathlib.Core.List.{List}
use lib.IntN.{pos}
use Rattle.rules.specs.Record.{figures_of}
use Rattle.rules.specs.Results.{square_of}
use Rattle.finding.specs.Places.{nowhere, found}
use Rattle.record_findings.specs.RecordFindings.{given_finding, length_finding, shares_finding}
use Rattle.field_findings.specs.Fields.{field_finding}
use Rattle.cumulative_findings.specs.CumulativeFindings.{cumulative_finding}
use Rattle.development_findings.specs.DevelopmentFindings.{development_finding}
use Rattle.triangle_findings.specs.TriangleFindings.{totals_finding, rest_finding}
use Rattle.factor_findings.specs.FactorFindings.{running_finding, level_finding}
use Rattle.tail_findings.specs.TailFindings.{tail_finding, tail_average_finding}
use Rattle.reserve_findings.specs.ReserveFindings.{ultimate_finding, ratio_finding, latest_finding}
use Rattle.correction_findings.specs.CorrectionFindings.{divisor_finding, corrected_finding}
use Rattle.ladder_findings.specs.LadderFindings.{completed_finding}
use Rattle.findings.specs.Findings.{finding_of}

module _ (s : List ℕ) (n : ℕ) where
  pub at_1 : n ≡ 1 → given_finding s ≡ finding_of s n
  unfolding finding_of
  at_1 e = rw e

  pub at_2 : n ≡ 2 → length_finding s ≡ finding_of s n
  unfolding finding_of
  at_2 e = rw e

  pub at_4 : n ≡ 4 → field_finding s ≡ finding_of s n
  unfolding finding_of
  at_4 e = rw e

  pub at_5 : n ≡ 5 → shares_finding s ≡ finding_of s n
  unfolding finding_of
  at_5 e = rw e

  pub at_6 : n ≡ 6 → cumulative_finding (figures_of s).k (figures_of s).increments ≡ finding_of s n
  unfolding finding_of
  at_6 e = rw e

  pub at_13 : n ≡ 13 → development_finding (figures_of s).k (figures_of s).increments ≡ finding_of s n
  unfolding finding_of
  at_13 e = rw e

  pub at_7 : n ≡ 7 → totals_finding (square_of (figures_of s)) (figures_of s).k ≡ finding_of s n
  unfolding finding_of
  at_7 e = rw e

  pub at_8 : n ≡ 8 → rest_finding (square_of (figures_of s)) (figures_of s).k ≡ finding_of s n
  unfolding finding_of
  at_8 e = rw e

  pub at_9 : n ≡ 9 → running_finding (square_of (figures_of s)) (figures_of s).k ≡ finding_of s n
  unfolding finding_of
  at_9 e = rw e

  pub at_10 : n ≡ 10 → level_finding (square_of (figures_of s)) (figures_of s).k ≡ finding_of s n
  unfolding finding_of
  at_10 e = rw e

  pub at_18 : n ≡ 18 → tail_finding (figures_of s) ≡ finding_of s n
  unfolding finding_of
  at_18 e = rw e

  pub at_19 : n ≡ 19 → tail_average_finding (figures_of s) ≡ finding_of s n
  unfolding finding_of
  at_19 e = rw e

  pub at_11 : n ≡ 11 → ultimate_finding (figures_of s) ≡ finding_of s n
  unfolding finding_of
  at_11 e = rw e

  pub at_12 : n ≡ 12 → ratio_finding (figures_of s) ≡ finding_of s n
  unfolding finding_of
  at_12 e = rw e

  pub at_15 : n ≡ 15 → latest_finding (figures_of s) ≡ finding_of s n
  unfolding finding_of
  at_15 e = rw e

  pub at_16 : n ≡ 16 → divisor_finding (figures_of s) ≡ finding_of s n
  unfolding finding_of
  at_16 e = rw e

  pub at_17 : n ≡ 17 → corrected_finding (figures_of s) ≡ finding_of s n
  unfolding finding_of
  at_17 e = rw e

  pub at_14 : n ≡ 14 → completed_finding (figures_of s) ≡ finding_of s n
  unfolding finding_of
  at_14 e = rw e

  pub at_none : (n ≡ 1 → ⊥) → (n ≡ 2 → ⊥) → (n ≡ 4 → ⊥) → (n ≡ 5 → ⊥) → (n ≡ 6 → ⊥) → (n ≡ 13 → ⊥) → (n ≡ 7 → ⊥) → (n ≡ 8 → ⊥) → (n ≡ 9 → ⊥) → (n ≡ 10 → ⊥) → (n ≡ 18 → ⊥) → (n ≡ 19 → ⊥) → (n ≡ 11 → ⊥) → (n ≡ 12 → ⊥) → (n ≡ 15 → ⊥) → (n ≡ 16 → ⊥) → (n ≡ 17 → ⊥) → (n ≡ 14 → ⊥) → found nowhere 0 0 (pos 0) (pos 0) (pos 0) ≡ finding_of s n
  unfolding finding_of
  at_none a1 a2 a4 a5 a6 a13 a7 a8 a9 a10 a18 a19 a11 a12 a15 a16 a17 a14 =
      rw (ne_eqb n 1 a1, ne_eqb n 2 a2, ne_eqb n 4 a4, ne_eqb n 5 a5, ne_eqb n 6 a6, ne_eqb n 13 a13, ne_eqb n 7 a7, ne_eqb n 8 a8, ne_eqb n 9 a9, ne_eqb n 10 a10, ne_eqb n 18 a18, ne_eqb n 19 a19, ne_eqb n 11 a11, ne_eqb n 12 a12, ne_eqb n 15 a15, ne_eqb n 16 a16, ne_eqb n 17 a17, ne_eqb n 14 a14)
