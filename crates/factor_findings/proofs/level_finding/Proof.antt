-- The totals of the square are read again, and the walk over them leaves its factors (level_is). Assumes nothing.
use mathlib.Core.Path.{◌≡◌, sym, ◌∙◌, refl}
use native.Mathlib.Omega.{arith}
use Rattle.rules.specs.Record.{figures_of}
use Rattle.rules.specs.Separation.{factors_of}
use Rattle.rules.specs.Results.{square_of}
use Rattle.outcomes.proofs.Said.{totals_yes, rests_yes, levels_no}
use Rattle.triangle_findings.proofs.Again.{late}
use Rattle.factor_findings.proofs.Levels.{walked, shares_small, levels_small, levels_in_lem, level_is}
use Rattle.factor_findings.proofs.level_finding.Statement.{statement}
use Rattle.factor_findings.proofs.level_finding.Tie as tie

totals-again-requires : tie.Need-totals_again-k-requires
totals-again-requires c κs = let s = c.before.before.before in late s.args.year s.args.packed.now 10 (omega arith) s.requires

walk-requires : tie.Need-walk-factors-requires
walk-requires c κs =
    let read = c.before.before.totals_again-k.ensures in
    (read.1.0, (_, rw (sym read.0) at read.1.1))

-- the factors of the walk
abbrev start : tie.After-walk-factors → tie.Start
start c = c.before.before.before.before.before.before.before

factors : (c : tie.After-walk-factors) → c.walk-factors.result ≡ factors_of (square_of (figures_of (start c).args.packed.now)) (figures_of (start c).args.packed.now).k
factors c =
    let s = start c in
    let read = c.before.before.before.totals_again-k.ensures in
    walked (square_of (figures_of s.args.packed.now)) (figures_of s.args.packed.now).k _ _ read.1.1
    (totals_yes s.args.year s.args.packed.now 10 refl s.requires) (rests_yes s.args.year s.args.packed.now 10 refl s.requires) _ read.0 _ c.walk-factors.ensures

level-found-requires : tie.Need-level_found-requires
level-found-requires c κs =
    let at = c.before.before.before in
    let s = start at in
    let f = figures_of s.args.packed.now in
    let read = at.before.before.before.totals_again-k.ensures in
    let few = rw read.0 at read.1.0 in
    let yes7 = totals_yes s.args.year s.args.packed.now 10 refl s.requires in (
      read.1.0,
      (
        shares_small (square_of f) f.k few _ _ read.1.1 yes7 _ (factors at),
        (
          levels_small (square_of f) f.k few _ _ read.1.1 yes7 _ (factors at),
          levels_in_lem (square_of f) f.k few _ _ read.1.1 yes7 _ (factors at) (levels_no s.args.year s.args.packed.now s.requires) _ read.0,
        ),
      ),
    )

returns : tie.Need-returns
returns c =
    let at = c.before.before.before.before in
    let s = start at in
    let f = figures_of s.args.packed.now in
    let read = at.before.before.before.totals_again-k.ensures in
    let few = rw read.0 at read.1.0 in
    let yes7 = totals_yes s.args.year s.args.packed.now 10 refl s.requires in (
      c.level_found.ensures.0
          ∙ level_is (square_of f) f.k few _ _ read.1.1 yes7 _ (factors at) (levels_no s.args.year s.args.packed.now s.requires) _ read.0,
      c.level_found.ensures.1,
    )

pub level_finding_spec : {M : Type 1} → statement M
level_finding_spec =
    tie.close (tie.spec totals-again-requires walk-requires level-found-requires returns)
