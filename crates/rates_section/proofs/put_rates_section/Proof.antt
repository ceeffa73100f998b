-- By whether there is a line (no_line, some_line). Assumes nothing.
use Rattle.composing.proofs.Puts.{put_none, put_same, put_three}
use Rattle.rates_section.proofs.Sections.{no_line, some_line}
use borrow.Author.Rules.{rules}
use Rattle.rates_section.proofs.put_rates_section.Statement.{statement}
use Rattle.rates_section.proofs.put_rates_section.Tie as tie

returns : tie.Need-returns-then-line-eq0
returns c = put_same (no_line _ _ _ _ c.if-line-eq0.true) (put_none _ _)

returns-2 : tie.Need-returns
returns-2 c =
    put_same (some_line _ _ _ _ c.before.before.before.before.before.before.before.before.before.before.before.before.before.before.if-line-eq0.false)
    (put_three c.before.before.before.before.before.before.before.before.before.before.put_section_start-start.ensures c.before.before.before.before.before.before.put_rates_paragraph-end.ensures c.before.before.put_section_end.ensures)

pub put_rates_section_spec : {M : Type 1} → statement M
put_rates_section_spec =
    tie.close
    (tie.spec
    returns
    (λ c κs. search rules)
    (λ c κs. search rules)
    (λ c κs. search rules)
    (λ c. search rules)
    returns-2)
