-- Where the sections of the report's figures of the years 0 to k start that come after the result list. Assumes nothing.
use Rattle.std.specs.Prelude.{ℕ, ◌+◌, ◌*◌}
use Rattle.rules.specs.Record.{cells}
use Rattle.rules.specs.Results.{result_count}
use Rattle.figure_places.specs.declared.Added.{Added}

-- where the sections after the result list start, where a triangle has m cells, in their order: exposures, increments, indices, reporting shares and ULAE totals as given; the given cumulatives, what is paid by
-- origin year, running shares, changes of the levels on the year before, payments expected by payment year, fitted values, how near provisions and ULAE reserves are proved to be, the chain
-- ladder's ultimates; its provisions, the ultimates, observed less fitted; the ultimates less the chain ladder's, and the sums of observed less fitted by origin year
unfoldable pub added_from : ℕ → ℕ → ℕ → Added
added_from exposures m k =
    let n = k + 1 in
    let increments = exposures + n in
    let indices = increments + m in
    let reporting = indices + n in
    let ulae = reporting + n in
    let cumulatives = ulae + n in
    let paid = cumulatives + m in
    let running = paid + n in
    let changes = running + n in
    let expected = changes + 2 * k in
    let fitted = expected + n in
    let allowances = fitted + m in
    let margins = allowances + n in
    let ladder = margins + n in
    let remaining = ladder + n in
    let ultimates = remaining + n in
    let gaps = ultimates + n in
    let differences = gaps + m in
    record {
      exposures = exposures;
      increments = increments;
      indices = indices;
      reporting = reporting;
      ulae = ulae;
      cumulatives = cumulatives;
      paid = paid;
      running = running;
      changes = changes;
      expected = expected;
      fitted = fitted;
      allowances = allowances;
      margins = margins;
      ladder = ladder;
      remaining = remaining;
      ultimates = ultimates;
      gaps = gaps;
      differences = differences;
      sums = differences + n;
    }

-- the result list has result_count k entries, and a triangle cells k
unfoldable pub added_at : ℕ → Added
added_at k = added_from (result_count k) (cells k) k
