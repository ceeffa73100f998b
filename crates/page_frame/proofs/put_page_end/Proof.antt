-- The parts follow one another. Assumes nothing.
use Rattle.page_frame.specs.Frame.{page_end}
use borrow.Author.Rules.{rules}
use Rattle.page_frame.proofs.put_page_end.Statement.{statement}
use Rattle.page_frame.proofs.put_page_end.Tie as tie

returns : tie.Need-returns
unfolding page_end
returns c =
    c.before.before.put_only.ensures

pub put_page_end_spec : {M : Type 1} → statement M
put_page_end_spec =
    tie.close
    (tie.spec
    (λ c κs. search rules)
    (λ c. search rules)
    returns)
