-- The first number of the range that fails is how many pass before it (first_in_range). Assumes nothing.
use Rattle.std.proofs.Common.{◌≡◌, ◌+◌, ℕ, Bool, true, false, ◌∙◌, arith, rules, tests}
use Rattle.std.proofs.lemmas.Iterator.{first_from_Range}
use Rattle.reasons.proofs.Placed.{first_in_range}
use Rattle.ladder_findings.specs.LadderFindings.{first_row_over}
use Rattle.ladder_findings.proofs.Within.{row_passes, row_yes, row_no}
use Rattle.ladder_findings.proofs.first_row.Goals as goal

pub returns : goal.returns
unfolding first_row_over
returns c =
    let passes : ℕ → Bool = row_passes c.args.k c.args.paid.now c.args.factors.now in
    c.unwrap_or.ensures
    ∙ first_in_range passes (c.args.k + 1) c.find.result
    (first_from_Range _ _ _ _ (λ i. passes i ≡ false) (λ i. passes i ≡ true) c.find.ensures.ran
    (λ i q called. row_no c.args.k c.args.paid.now c.args.factors.now i (grind (arith, tests)))
    (λ i q called. (search rules, row_yes c.args.k c.args.paid.now c.args.factors.now i (grind (arith, tests)))))
