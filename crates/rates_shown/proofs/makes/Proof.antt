-- An accepted call's array has the indices (made_indices), and its first numbers are compared (same_padded). Assumes nothing.
use mathlib.Core.Path.{ap, ◌∙◌}
use Rattle.rules.specs.Inflation.{index_after}
use Rattle.rules.specs.declared.Indices.{Indices}
use Rattle.rates_shown.specs.RatesShown.{same_first}
use Rattle.rates_shown.proofs.Shown.{made_indices, same_padded}
use borrow.Author.Rules.{rules}
use Rattle.rates_shown.proofs.makes.Statement.{statement}
use Rattle.rates_shown.proofs.makes.Tie as tie

returns : tie.Need-returns
returns c =
    let i = c.before.before.before in
    let s = i.before in
    let years = s.args.years in
    let held = s.args.indices.now in
    c.same_first.ensures
    ∙ ap (same_first years held) (ap (λ (r : Indices). r.values) i.inflation_indices-made.ensures ∙ made_indices s.args.shape years s.requires.1)
    ∙ same_padded held (index_after s.args.shape) years

pub makes_spec : {M : Type 1} → statement M
makes_spec = tie.close (tie.spec (λ c κs. search rules) (λ c κs. search rules) returns)
