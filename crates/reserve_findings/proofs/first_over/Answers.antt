-- The first number of the range that fails is how many pass before it (first_in_range). Assumes nothing.
use Rattle.std.proofs.Common.{◌≡◌, ◌+◌, ℕ, true, false, ◌∙◌, leb, arith, rules, tests}
use Rattle.std.proofs.lemmas.Iterator.{first_from_Range}
use borrow.Author.Tests.{le-leb, lt-leb}
use Rattle.rules.specs.Completion.{ultimate, most_ultimate}
use Rattle.reasons.proofs.Placed.{first_in_range}
use Rattle.reserve_findings.proofs.first_over.Goals as goal

pub returns : goal.returns
unfolding ultimate
returns c =
    let x : ℕ → ℕ = ultimate c.args.paid.now c.args.provisions.now in
    c.unwrap_or.ensures
    ∙ first_in_range (λ i. leb (x i) most_ultimate) (c.args.k + 1) c.find.result
    (first_from_Range _ _ _ _ (λ i. leb (x i) most_ultimate ≡ false) (λ i. leb (x i) most_ultimate ≡ true) c.find.ensures.ran
    (λ i q called. lt-leb (x i) most_ultimate (grind (arith, tests)))
    (λ i q called. (search rules, le-leb (x i) most_ultimate (grind (arith, tests)))))
