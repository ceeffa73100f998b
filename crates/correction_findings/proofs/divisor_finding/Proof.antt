-- The parts are the figures' own (parts_again), and Y, which question 15 has passed, is its own size (Correcting). Assumes nothing.
use native.Mathlib.Omega.{arith}
use mathlib.Core.Path.{refl, ◌∙◌}
use Rattle.rules.specs.Record.{figures_of}
use Rattle.provisions_again.specs.Provided.{Corrects}
use Rattle.provisions_again.proofs.Passing.{correcting, after_16, divisor_refused}
use Rattle.correction_findings.proofs.Correcting.{divisor_found}
use Rattle.correction_findings.proofs.divisor_finding.Statement.{statement}
use Rattle.correction_findings.proofs.divisor_finding.Tie as tie

passed : (s : tie.Start) → Corrects s.args.packed.now
passed s =
    let packed = s.args.packed.now in
    correcting s.args.year packed 16 after_16 refl refl refl s.requires (divisor_refused s.args.year packed s.requires).0

parts-again-requires : tie.Need-parts_again-parts-requires
parts-again-requires c κs = passed c.before

of-naturals-requires : tie.Need-of_naturals-requires
of-naturals-requires c κs =
    let small = c.parts_again-parts.ensures.1 in
    let w = small.weight in
    let b = small.reported in
    let y = small.paid in
    (omega (arith, w), (omega (arith, b, y), omega (arith, b, y)))

returns : tie.Need-returns
returns c =
    let parts = c.before.parts_again-parts in
    let s = c.before.before.before in
    let made = c.of_naturals.ensures in
    (made ∙ divisor_found (figures_of s.args.packed.now) parts.result parts.ensures.0 (passed s).latest, (rw made (omega arith), rw made (omega arith)))

pub divisor_finding_spec : {M : Type 1} → statement M
divisor_finding_spec = tie.close (tie.spec parts-again-requires of-naturals-requires returns)
