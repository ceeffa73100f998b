-- One segment after another, from an array of zeros on (segments). Assumes nothing.
use mathlib.Core.Path.{◌∙◌}
use Rattle.summary.proofs.Segments.{segments}
use borrow.Author.Rules.{rules}
use Rattle.summary.proofs.fill_summary.Statement.{statement}
use Rattle.summary.proofs.fill_summary.Tie as tie

returns : tie.Need-returns
returns c =
    let s = c.before.before.before.before.before.before.before.before.before.before.before.before.before.before.before.before in
    let a = s.args in
    let one = c.before.before.before.before.before.before.before.before.before.before.before.before.fill_totals.ensures in
    let two = c.before.before.before.before.before.before.before.before.before.before.fill_entries.ensures in
    let three = c.before.before.before.before.before.before.before.before.fill_compared.ensures in
    let four = c.before.before.before.before.before.before.fill_largest.ensures in
    let five = c.before.before.before.before.fill_fit.ensures in
    let six = c.before.before.fill_given.ensures in
    (rw (six, five, four, three, two, one, s.requires.1.1.1) at c.fill_limits.ensures) ∙ segments a.year a.k a.figures.now a.correction a.weight a.tail

pub fill_summary_spec : {M : Type 1} → statement M
fill_summary_spec =
    tie.close
    (tie.spec
    (λ c κs. search rules)
    (λ c κs. search rules)
    (λ c κs. search rules)
    (λ c κs. search rules)
    (λ c κs. search rules)
    (λ c κs. search rules)
    (λ c κs. search rules)
    (λ c κs. search rules)
    (λ c κs. search rules)
    returns)
