-- The parts are the figures' own (parts_again), and the divisor, which question 16 has passed, is at least 1 (Correcting). Assumes nothing.
use native.Mathlib.Omega.{arith}
use mathlib.Core.Path.{refl, ◌∙◌}
use Rattle.rules.specs.Record.{figures_of}
use Rattle.provisions_again.proofs.Passing.{correcting, after_17, corrected_refused, divisor_some}
use Rattle.correction_findings.proofs.Correcting.{corrected_found, corrected_fits, divisor_is}
use Rattle.correction_findings.proofs.corrected_finding.Statement.{statement}
use Rattle.correction_findings.proofs.corrected_finding.Tie as tie

parts-again-requires : tie.Need-parts_again-parts-requires
parts-again-requires c κs =
    let s = c.before in
    let packed = s.args.packed.now in
    correcting s.args.year packed 17 after_17 refl refl refl s.requires (corrected_refused s.args.year packed s.requires).0

mul-of-naturals : tie.Need-overflow_mul-parts
mul-of-naturals c = omega (arith, c.before.parts_again-parts.ensures.1.plain)

div-of-naturals : tie.Need-nonzero_div-parts
div-of-naturals c =
    let parts = c.before.before.parts_again-parts in
    let s = c.before.before.before.before in
    let packed = s.args.packed.now in
    omega (arith, divisor_is (figures_of packed) parts.result parts.ensures.0, divisor_some s.args.year packed s.requires)

of-naturals-requires : tie.Need-of_naturals-requires
of-naturals-requires c κs = let parts = c.before.before.parts_again-parts in corrected_fits parts.result parts.ensures.1

returns : tie.Need-returns
returns c =
    let parts = c.before.before.before.parts_again-parts in
    let s = c.before.before.before.before.before in
    let made = c.of_naturals.ensures in
    (made ∙ corrected_found (figures_of s.args.packed.now) parts.result parts.ensures.0, (rw made (omega arith), rw made (omega arith)))

pub corrected_finding_spec : {M : Type 1} → statement M
corrected_finding_spec = tie.close (tie.spec parts-again-requires mul-of-naturals div-of-naturals of-naturals-requires returns)
