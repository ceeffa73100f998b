-- The first number of the range that fails is how many pass before it (first_in_range). Assumes nothing.
use Rattle.std.proofs.Common.{◌≡◌, ◌+◌, ℕ, Bool, true, false, ◌∙◌, leb, arith, rules, tests}
use Rattle.std.proofs.lemmas.Iterator.{first_from_Range}
use borrow.Author.Tests.{le-leb, lt-leb}
use Rattle.rules.specs.Tail.{tail_average, most_tail_average}
use Rattle.tail.specs.Tailable.{years_carried}
use Rattle.reasons.proofs.Placed.{first_in_range}
use Rattle.tail_findings.proofs.first_over.Goals as goal

pub returns : goal.returns
unfolding years_carried
returns c =
    let passes : ℕ → Bool = λ i. leb (tail_average c.args.first c.args.indices.now i) most_tail_average in
    c.unwrap_or.ensures
    ∙ first_in_range passes (c.args.k + 1) c.find.result
    (first_from_Range _ _ _ _ (λ i. passes i ≡ false) (λ i. passes i ≡ true) c.find.ensures.ran
    (λ x q called. lt-leb (tail_average c.args.first c.args.indices.now x) most_tail_average (grind (arith, tests)))
    (λ x q called. (search rules, le-leb (tail_average c.args.first c.args.indices.now x) most_tail_average (grind (arith, tests)))))
