-- The parts follow one another (put_four). Assumes nothing.
use Rattle.composing.proofs.Puts.{put_four}
use Rattle.hindsight_page.specs.Page.{gaps_paragraph, gaps}
use borrow.Author.Rules.{rules}
use Rattle.hindsight_page.proofs.put_gaps.Statement.{statement}
use Rattle.hindsight_page.proofs.put_gaps.Tie as tie

returns : tie.Need-returns
unfolding gaps gaps_paragraph
returns c = put_four c.before.before.before.before.before.before.before.before.before.before.before.before.before.before.before.before.put_section_start-b.ensures c.before.before.before.before.before.before.before.before.before.before.put_only-c.ensures c.before.before.before.before.before.before.put_gaps_rows-d.ensures c.before.before.put_section_end.ensures

pub put_gaps_spec : {M : Type 1} → statement M
put_gaps_spec =
    tie.close
    (tie.spec
    (λ c κs. search rules)
    (λ c κs. search rules)
    (λ c κs. search rules)
    (λ c κs. search rules)
    (λ c. search rules)
    returns)
