-- With the words of the valuation year. Assumes nothing.
use Rattle.page_frame.specs.Frame.{page_start}
use borrow.Author.Rules.{rules}
use Rattle.page_frame.proofs.put_page_start.Statement.{statement}
use Rattle.page_frame.proofs.put_page_start.Tie as tie

returns : tie.Need-returns
unfolding page_start
returns c = c.before.before.put_start_with.ensures

pub put_page_start_spec : {M : Type 1} → statement M
put_page_start_spec =
    tie.close
    (tie.spec
    (λ c κs. search rules)
    (λ c. search rules)
    returns)
