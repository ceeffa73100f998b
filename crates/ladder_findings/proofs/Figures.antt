-- The paid cumulatives c, the column sums v and the development factors m in arrays that hold those of the figures f. Assumes nothing.
use Prim.Native.Nat.{ℕ, ◌+◌, ◌≤◌}
use mathlib.Core.Path.{◌≡◌, ◌∙◌}
use mathlib.Core.Bool.{true, false}
use mathlib.Core.List.{List}
use lib.ListN.{get_or, replicate}
use lib.Seq.{sets}
use Rattle.rules.specs.Lists.{up_to}
use Rattle.rules.specs.Record.{Figures}
use Rattle.rules.specs.Triangle.{most_cumulative, cumulatives_pass}
use Rattle.rules.specs.Ladder.{development_factor, factor_passes, completed_all, completed_pass}
use Rattle.rules.specs.Results.{paid_in, development_in}
use Rattle.rules.specs.Engine.{development_passes}
use Rattle.reading.specs.Reading.{Sound}
use Rattle.triangle.specs.Columns.{column_sum}
use Rattle.triangle.proofs.Passed.{paid_most}
use Rattle.results.proofs.Limits.{factors_most}
use Rattle.entries.specs.Leading.{leading}
use Rattle.ladder.specs.Columns.{developed_in, base_in, Ladderable}
use Rattle.figures_run.proofs.Development.{ladderable, development_are}
use Rattle.ladder_findings.specs.LadderFindings.{cell_finding, completed_finding, Developing}

paid_low : (f : Figures) → cumulatives_pass f.k f.increments ≡ true → (i : ℕ) → get_or (paid_in f) i 0 ≤ most_cumulative
unfolding paid_in
paid_low f six = paid_most f.k f.increments six

module _ (f : Figures) (good : Sound f) (six : cumulatives_pass f.k f.increments ≡ true) (k : ℕ) (c : List ℕ) (ek : k ≡ f.k) (ec : c ≡ paid_in f) where
  -- what the factors ask for, and that they are the figures' own
  module _ (v : List ℕ) (ev : v ≡ up_to (column_sum f.k f.increments (f.k + 1)) 16) where
    pub factors_ready : Ladderable k v c
    factors_ready = rw ek (ladderable f good.few v c ev ec six)

    pub factors_found : development_passes f ≡ true → (m : List ℕ) → m ≡ sets (replicate 16 0) 0
        (up_to (λ j. development_factor (developed_in v j) (base_in k v c j)) (leading (λ j. factor_passes (developed_in v j) (base_in k v c j)) k)) → m ≡ development_in f
    factors_found thirteen m e = development_are f good.few v c ev ec thirteen m (e ∙ rw ek)

  -- what question 14 says, the limits, and the finding
  module _ (m : List ℕ) (em : m ≡ development_in f) where
    pub cell_ready : development_passes f ≡ true → completed_pass (completed_all f.k (paid_in f) (development_in f)) ≡ false
        → Developing k c m × (completed_pass (completed_all k c m) ≡ false)
    cell_ready thirteen refused = rw (ek, ec, em) (record { few = good.few; paid = paid_low f six; factors = factors_most f thirteen }, refused)

    pub completed_is : cell_finding k c m ≡ completed_finding f
    unfolding completed_finding
    completed_is = rw (ek, ec, em)
