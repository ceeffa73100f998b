-- Where the inputs can be read. Assumes nothing.
use mathlib.Core.Path.{sym, ◌∙◌}
use Rattle.composing.proofs.Puts.{put_none, put_append}
use Rattle.refused_page.specs.RefusedPage.{known_inputs}
use borrow.Author.Rules.{rules}
use Rattle.refused_page.proofs.put_known_inputs.Statement.{statement}
use Rattle.refused_page.proofs.put_known_inputs.Tie as tie

put-refused-inputs-requires : tie.Need-put_refused_inputs-rates-requires
put-refused-inputs-requires c κs =
    let t = c.before in
    let s = t.before.before.before.before.before in
    (s.requires.0, (s.requires.1.0, s.requires.1.1 (sym t.before.inputs_known.ensures ∙ t.if-inputs_known.true)))

put-refused-rates-requires : tie.Need-put_refused_rates-requires
put-refused-rates-requires c κs =
    let t = c.before.before.before.before.before in
    let s = t.before.before.before.before.before in
    (s.requires.0, s.requires.1.1 (sym t.before.inputs_known.ensures ∙ t.if-inputs_known.true))

returns : tie.Need-returns-then-inputs_known
unfolding known_inputs
returns c =
    let t = c.before.before.before.before.before.before.before.before in
    rw (sym t.before.inputs_known.ensures ∙ t.if-inputs_known.true) (put_append c.before.before.before.before.before.before.put_refused_inputs-rates.ensures c.before.before.put_refused_rates.ensures)

returns-2 : tie.Need-returns-else-inputs_known
unfolding known_inputs
returns-2 c = rw (sym c.before.inputs_known.ensures ∙ c.if-inputs_known.false) (put_none _ _)

pub put_known_inputs_spec : {M : Type 1} → statement M
put_known_inputs_spec =
    tie.close
    (tie.spec (λ c κs. search rules) put-refused-inputs-requires put-refused-rates-requires (λ c. search rules) returns returns-2)
