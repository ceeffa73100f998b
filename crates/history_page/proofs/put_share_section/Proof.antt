-- The parts follow one another (put_five). Assumes nothing.
use Rattle.composing.proofs.Puts.{put_five}
use Rattle.history_page.specs.Page.{share_paragraph, share_section}
use borrow.Author.Rules.{rules}
use Rattle.history_page.proofs.put_share_section.Statement.{statement}
use Rattle.history_page.proofs.put_share_section.Tie as tie

returns : tie.Need-returns
unfolding share_section share_paragraph
returns c =
    put_five c.before.before.before.before.before.before.before.before.before.before.before.before.before.before.before.before.before.before.before.before.put_section_start-a.ensures c.before.before.before.before.before.before.before.before.before.before.before.before.before.before.put_only-b.ensures c.before.before.before.before.before.before.before.before.before.before.put_share_tables-c.ensures c.before.before.before.before.before.before.put_drift-d.ensures c.before.before.put_section_end.ensures

pub put_share_section_spec : {M : Type 1} → statement M
put_share_section_spec =
    tie.close
    (tie.spec
    (λ c κs. search rules)
    (λ c κs. search rules)
    (λ c κs. search rules)
    (λ c κs. search rules)
    (λ c κs. search rules)
    (λ c. search rules)
    returns)
