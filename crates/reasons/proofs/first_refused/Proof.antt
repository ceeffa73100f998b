-- The ladder keeps the factors from the first year on that fails as they were, above the most (first_stored). Assumes nothing.
use mathlib.Core.Path.{◌≡◌, ◌∙◌}
use native.Mathlib.Omega.{arith}
use Rattle.ladder.specs.Columns.{developed_in, base_in}
use Rattle.reasons.specs.Reasons.{first_refused}
use Rattle.reasons.proofs.Stored.{first_stored}
use Rattle.reasons.proofs.Why.{refused_below}
use borrow.Author.Rules.{rules}
use Rattle.reasons.proofs.first_refused.Statement.{statement}
use Rattle.reasons.proofs.first_refused.Tie as tie

returns : tie.Need-returns
returns c =
    let ladder = c.before.before.development_factors in
    let s = c.before.before.before.before in
    let v = s.args.columns.now in
    let k = s.args.k in
    let a = developed_in v in
    let b = base_in k v s.args.paid.now in
    let e : c.first_above.result ≡ first_refused a b k = c.first_above.ensures ∙ first_stored a b k s.requires.0.few s.requires.1 _ ladder.ensures.1 in
    (e, omega (arith, e, refused_below a b k s.requires.1))

pub first_refused_spec : {M : Type 1} → statement M
first_refused_spec =
    tie.close
    (tie.spec
    (λ c. search rules)
    (λ c κs. search rules)
    (λ c κs. search rules)
    returns)
