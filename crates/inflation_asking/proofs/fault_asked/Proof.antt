-- By k and by the line. Assumes nothing.
use mathlib.Core.Path.{sym, ◌∙◌}
use Rattle.inflation_asking.proofs.Years.{fault_of_lem, no_line, no_year_lem}
use borrow.Author.Rules.{rules}
use Rattle.inflation_asking.proofs.fault_asked.Statement.{statement}
use Rattle.inflation_asking.proofs.fault_asked.Tie as tie

returns : tie.Need-returns-then-is_inflation
returns c =
    let i = c.before.before in
    let y = i.before.before.before in
    c.fault_in.ensures ∙ fault_of_lem _ _ y.year_asked-k.ensures.0 _ i.before.line_wanted-line.ensures i.before.before.if-k-gt0.true (sym i.is_inflation.ensures ∙ c.before.if-is_inflation.true)

returns-2 : tie.Need-returns-else-is_inflation
returns-2 c =
    let i = c.before in
    let y = i.before.before.before in
    no_line _ _ y.year_asked-k.ensures.0 _ i.before.line_wanted-line.ensures i.before.before.if-k-gt0.true (sym i.is_inflation.ensures ∙ c.if-is_inflation.false)

returns-3 : tie.Need-returns-else-k-gt0
returns-3 c = no_year_lem _ _ c.before.year_asked-k.ensures.0 c.if-k-gt0.false

pub fault_asked_spec : {M : Type 1} → statement M
fault_asked_spec =
    tie.close
    (tie.spec
    (λ c κs. search rules)
    (λ c κs. search rules)
    (λ c κs. search rules)
    (λ c. search rules)
    (λ c κs. search rules)
    returns
    returns-2
    returns-3)
