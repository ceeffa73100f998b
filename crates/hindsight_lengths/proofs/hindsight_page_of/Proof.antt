-- The page is shorter than its buffer (page_most), so what was put there is all of it (put_back). Assumes nothing.
use native.Mathlib.Omega.{arith}
use mathlib.Core.Path.{◌∙◌}
use Rattle.composing.proofs.Puts.{put_length, put_back}
use Rattle.hindsight_lengths.proofs.Pages.{page_most}
use borrow.Author.Rules.{rules}
use Rattle.hindsight_lengths.proofs.hindsight_page_of.Statement.{statement}
use Rattle.hindsight_lengths.proofs.hindsight_page_of.Tie as tie

returns : tie.Need-returns
returns c =
    let s = c.before.before.before in
    let a = s.args in
    let room = c.before.put_hindsight_page-arg-1.given.0.1 in
    let most = page_most a.html a.title.now a.first a.k a.n a.settings.now a.list.now s.requires.0 s.requires.1 in (
      (omega (arith, most, c.put_hindsight_page.ensures.ended), put_back c.put_hindsight_page.ensures (omega (arith, most, room))),
      put_length c.put_hindsight_page.ensures ∙ room,
    )

pub hindsight_page_of_spec : {M : Type 1} → statement M
hindsight_page_of_spec =
    tie.close
    (tie.spec
    (λ c κs. search rules)
    returns)
