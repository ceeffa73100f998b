-- The heading, the paragraph, the two rows and the end of the section (put_five). Assumes nothing.
use Rattle.composing.proofs.Puts.{put_five}
use Rattle.share_section.specs.ShareSection.{share_paragraph, shares_section}
use borrow.Author.Rules.{rules}
use Rattle.share_section.proofs.put_share_section.Statement.{statement}
use Rattle.share_section.proofs.put_share_section.Tie as tie

returns : tie.Need-returns
unfolding shares_section share_paragraph
returns c =
    put_five c.before.before.before.before.before.before.before.before.before.before.before.before.before.before.before.before.before.before.before.before.put_section_start-paragraph.ensures c.before.before.before.before.before.before.before.before.before.before.before.before.before.before.put_only-shares.ensures c.before.before.before.before.before.before.before.before.before.before.put_shares-levels.ensures c.before.before.before.before.before.before.put_levels-end.ensures c.before.before.put_section_end.ensures

pub put_share_section_spec : {M : Type 1} → statement M
put_share_section_spec =
    tie.close
    (tie.spec
    (λ c κs. search rules)
    (λ c κs. search rules)
    (λ c κs. search rules)
    (λ c κs. search rules)
    (λ c κs. search rules)
    (λ c. search rules)
    returns)
