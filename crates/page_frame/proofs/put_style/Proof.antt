-- The parts follow one another. Assumes nothing.
use Rattle.composing.proofs.Puts.{put_five}
use Rattle.page_frame.specs.Frame.{style, page_style, table_style, shade_style, plot_style, paper_style}
use borrow.Author.Rules.{rules}
use Rattle.page_frame.proofs.put_style.Statement.{statement}
use Rattle.page_frame.proofs.put_style.Tie as tie

returns : tie.Need-returns
unfolding style page_style table_style shade_style plot_style paper_style
returns c =
    put_five c.before.before.before.before.before.before.before.before.before.before.before.before.before.before.before.before.before.before.before.before.before.before.before.before.before.before.put_bytes-a.ensures c.before.before.before.before.before.before.before.before.before.before.before.before.before.before.before.before.before.before.before.before.put_bytes-b.ensures c.before.before.before.before.before.before.before.before.before.before.before.before.before.before.put_bytes-c.ensures c.before.before.before.before.before.before.before.before.put_bytes-d.ensures c.before.before.put_bytes.ensures

pub put_style_spec : {M : Type 1} → statement M
put_style_spec =
    tie.close
    (tie.spec
    (λ c κs. search rules)
    (λ c κs. search rules)
    (λ c κs. search rules)
    (λ c κs. search rules)
    (λ c κs. search rules)
    (λ c. search rules)
    returns)
