-- The parts follow one another. Assumes nothing.
use native.Mathlib.Omega.{arith}
use Rattle.composing.proofs.Puts.{put_append, put_five}
use Rattle.rules.specs.History.{position_count}
use Rattle.history_page.specs.Page.{history_page}
use borrow.Author.Rules.{rules}
use Rattle.history_page.proofs.put_history_page.Statement.{statement}
use Rattle.history_page.proofs.put_history_page.Tie as tie

put-history-opening-requires : tie.Need-put_history_opening-b-requires
put-history-opening-requires c κs =
    let w = c.before.before.before.before.before.before.before.requires.0 in
    (omega (arith, w.width_least, w.width_fits), (w.years_most, w.first_most))

put-refusal-section-requires : tie.Need-put_refusal_section-e-requires
put-refusal-section-requires c κs =
    let w = c.before.before.before.before.before.before.before.before.before.before.before.before.before.before.before.before.before.before.before.requires.0 in
    (omega (arith, w.years_most, w.width_fits), w.width_most_lem)

returns : tie.Need-returns
unfolding history_page position_count
returns c =
    put_append c.before.before.before.before.before.before.before.before.before.before.before.before.before.before.before.before.before.before.before.before.before.before.put_history_start-a.ensures
    (put_five c.before.before.before.before.before.before.before.before.before.before.before.before.before.before.before.before.before.before.put_history_opening-b.ensures c.before.before.before.before.before.before.before.before.before.before.before.before.before.before.put_share_section-c.ensures c.before.before.before.before.before.before.before.before.before.before.put_level_section-d.ensures c.before.before.before.before.before.before.put_refusal_section-e.ensures c.before.before.put_page_end.ensures)

pub put_history_page_spec : {M : Type 1} → statement M
put_history_page_spec =
    tie.close
    (tie.spec
    (λ c κs. search rules)
    put-history-opening-requires
    (λ c κs. search rules)
    (λ c κs. search rules)
    (λ c. search rules)
    (λ c. search rules)
    put-refusal-section-requires
    (λ c κs. search rules)
    (λ c. search rules)
    returns)
