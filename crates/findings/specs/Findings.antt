-- What a question found that refuses the record s: where it says no, and the figures there. Assumes nothing.
use Rattle.std.specs.Prelude.{ℕ, cond, List, eqb, pos}
use Rattle.rules.specs.Record.{figures_of}
use Rattle.rules.specs.Results.{square_of}
use Rattle.finding.specs.declared.Finding.{Finding}
use Rattle.finding.specs.Places.{nowhere, found}
use Rattle.record_findings.specs.RecordFindings.{given_finding, length_finding, shares_finding}
use Rattle.field_findings.specs.Fields.{field_finding}
use Rattle.cumulative_findings.specs.CumulativeFindings.{cumulative_finding}
use Rattle.development_findings.specs.DevelopmentFindings.{development_finding}
use Rattle.triangle_findings.specs.TriangleFindings.{totals_finding, rest_finding}
use Rattle.factor_findings.specs.FactorFindings.{running_finding, level_finding}
use Rattle.tail_findings.specs.TailFindings.{tail_finding, tail_average_finding}
use Rattle.reserve_findings.specs.ReserveFindings.{ultimate_finding, ratio_finding, latest_finding}
use Rattle.correction_findings.specs.CorrectionFindings.{divisor_finding, corrected_finding}
use Rattle.ladder_findings.specs.LadderFindings.{completed_finding}

-- what question n found, in the order in which they are put; the buffer for the list is long enough, so question 3 finds nothing
unfoldable pub finding_of : List ℕ → ℕ → Finding
finding_of s n =
    cond (eqb n 1) (given_finding s)
    (cond (eqb n 2) (length_finding s)
    (cond (eqb n 4) (field_finding s)
    (cond (eqb n 5) (shares_finding s)
    (cond (eqb n 6) (cumulative_finding (figures_of s).k (figures_of s).increments)
    (cond (eqb n 13) (development_finding (figures_of s).k (figures_of s).increments)
    (cond (eqb n 7) (totals_finding (square_of (figures_of s)) (figures_of s).k)
    (cond (eqb n 8) (rest_finding (square_of (figures_of s)) (figures_of s).k)
    (cond (eqb n 9) (running_finding (square_of (figures_of s)) (figures_of s).k)
    (cond (eqb n 10) (level_finding (square_of (figures_of s)) (figures_of s).k)
    (cond (eqb n 18) (tail_finding (figures_of s))
    (cond (eqb n 19) (tail_average_finding (figures_of s))
    (cond (eqb n 11) (ultimate_finding (figures_of s))
    (cond (eqb n 12) (ratio_finding (figures_of s))
    (cond (eqb n 15) (latest_finding (figures_of s))
    (cond (eqb n 16) (divisor_finding (figures_of s))
    (cond (eqb n 17) (corrected_finding (figures_of s))
    (cond (eqb n 14) (completed_finding (figures_of s))
    (found nowhere 0 0 (pos 0) (pos 0) (pos 0)))))))))))))))))))
