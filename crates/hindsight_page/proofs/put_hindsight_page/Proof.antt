-- The parts follow one another (put_five); the gaps are those of the best setting. Assumes nothing.
use native.Mathlib.Omega.{arith}
use Rattle.composing.proofs.Puts.{put_five}
use Rattle.hindsight_places.specs.Places.{best_at}
use Rattle.hindsight_page.specs.Page.{hindsight_page}
use Rattle.hindsight_page.proofs.Shown.{shown_at}
use borrow.Author.Rules.{rules}
use Rattle.hindsight_page.proofs.put_hindsight_page.Statement.{statement}
use Rattle.hindsight_page.proofs.put_hindsight_page.Tie as tie

best-of-requires : tie.Need-best_of-best-requires
best-of-requires c κs =
    let t = c.before.before.requires.tried in
    ((t.k_least, t.k_most), t.settings_most)

put-figure-sections-requires : tie.Need-put_figure_sections-c-requires
put-figure-sections-requires c κs =
    let s = c.before.before.before.before.before.before.before.before.before.before.before.before in
    let a = s.args in
    let shown = shown_at a.first a.k a.n a.settings.now a.list.now s.requires in
    let best = best_at a.list.now a.k a.n in
    rw c.before.before.before.before.before.before.before.before.before.best_of-best.ensures
    (s.requires.best_inside, ((shown 0 (omega (arith, s.requires.tried.settings_least)), shown best s.requires.best_inside), s.requires.tried.first_most))

returns : tie.Need-returns
unfolding hindsight_page
returns c = put_five c.before.before.before.before.before.before.before.before.before.before.before.before.before.before.before.before.before.before.put_hindsight_start-a.ensures c.before.before.before.before.before.before.before.before.before.before.before.before.before.before.put_hindsight_opening-b.ensures (rw c.before.before.before.before.before.before.before.before.before.before.before.before.before.before.before.before.before.before.before.before.best_of-best.ensures at c.before.before.before.before.before.before.before.before.before.before.put_figure_sections-c.ensures) c.before.before.before.before.before.before.put_mark_section-d.ensures c.before.before.put_page_end.ensures

pub put_hindsight_page_spec : {M : Type 1} → statement M
put_hindsight_page_spec =
    tie.close
    (tie.spec
    best-of-requires
    (λ c κs. search rules)
    (λ c κs. search rules)
    put-figure-sections-requires
    (λ c κs. search rules)
    (λ c κs. search rules)
    (λ c. search rules)
    returns)
