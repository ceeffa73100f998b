-- Constants one after another. Assumes nothing.
use mathlib.Core.Path.{refl}
use Rattle.summary_figures.specs.Summary.{limits}
use borrow.Author.Rules.{rules}
use Rattle.summary_figures.proofs.fill_limits.Statement.{statement}
use Rattle.summary_figures.proofs.fill_limits.Tie as tie

returns : tie.Need-returns
unfolding limits
returns c = refl

pub fill_limits_spec : {M : Type 1} → statement M
fill_limits_spec =
    tie.close
    (tie.spec
    (λ c. search rules)
    (λ c. search rules)
    (λ c. search rules)
    (λ c. search rules)
    (λ c. search rules)
    (λ c. search rules)
    (λ c. search rules)
    (λ c. search rules)
    (λ c. search rules)
    (λ c. search rules)
    (λ c. search rules)
    (λ c. search rules)
    (λ c. search rules)
    (λ c. search rules)
    (λ c. search rules)
    (λ c. search rules)
    (λ c. search rules)
    returns)
