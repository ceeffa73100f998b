-- Of question 8 alone. Assumes nothing.
use borrow.Author.Rules.{rules}
use borrow.Author.Tests.{eq-eqb, ne_eqb}
use Rattle.composing.proofs.Puts.{put_none}
use Rattle.refused_page.specs.RefusedPage.{refused_rests}
use Rattle.refused_page.proofs.put_refused_rests.Statement.{statement}
use Rattle.refused_page.proofs.put_refused_rests.Tie as tie

put-rest-section-requires : tie.Need-put_rest_section-requires
put-rest-section-requires c κs = c.before.before.before.before.requires c.before.if-n-eq8.true

returns : tie.Need-returns-then-n-eq8
unfolding refused_rests
returns c = rw (eq-eqb _ _ c.before.before.before.before.if-n-eq8.true) c.before.before.put_rest_section.ensures

returns-2 : tie.Need-returns-else-n-eq8
unfolding refused_rests
returns-2 c = rw (ne_eqb _ _ c.if-n-eq8.false) (put_none _ _)

pub put_refused_rests_spec : {M : Type 1} → statement M
put_refused_rests_spec = tie.close (tie.spec put-rest-section-requires (λ c. search rules) returns returns-2)
