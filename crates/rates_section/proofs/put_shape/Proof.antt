-- By the place (first_shape, second_shape, third_shape). Assumes nothing.
use Rattle.composing.proofs.Puts.{put_same}
use Rattle.rates_section.proofs.Sections.{first_shape, second_shape, third_shape}
use borrow.Author.Rules.{rules}
use Rattle.rates_section.proofs.put_shape.Statement.{statement}
use Rattle.rates_section.proofs.put_shape.Tie as tie

returns : tie.Need-returns-then-place-eq0
returns c = let t = c.before.before.before.before in put_same (first_shape _ _ _ _ _ t.if-place-eq0.true) c.before.before.put_flat.ensures

returns-2 : tie.Need-returns-then-place-eq1
returns-2 c = let t = c.before.before.before.before in put_same (second_shape _ _ _ _ _ t.if-place-eq1.true) c.before.before.put_fading.ensures

returns-3 : tie.Need-returns
returns-3 c = let t = c.before.before.before.before in put_same (third_shape _ _ _ _ _ t.before.if-place-eq0.false t.if-place-eq1.false) c.before.before.put_shock.ensures

pub put_shape_spec : {M : Type 1} → statement M
put_shape_spec =
    tie.close
    (tie.spec
    (λ c κs. search rules)
    (λ c. search rules)
    returns
    (λ c κs. search rules)
    (λ c. search rules)
    returns-2
    (λ c κs. search rules)
    (λ c. search rules)
    returns-3)
