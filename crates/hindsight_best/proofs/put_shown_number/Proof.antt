-- By the kind of page; the number fits 63 bits. Assumes nothing.
use mir.Syntax.{w64}
use mir.ValLaws.{to_z_pos}
use Rattle.parts.specs.Parts.{either}
use Rattle.hindsight_best.specs.Best.{shown_number}
use borrow.Author.Rules.{rules}
use Rattle.hindsight_best.proofs.put_shown_number.Statement.{statement}
use Rattle.hindsight_best.proofs.put_shown_number.Tie as tie

returns : tie.Need-returns-then-html
unfolding shown_number either
returns c =
    let s = c.before.before.before.before.before.before in
    rw c.before.before.before.before.if-html.true (rw (to_z_pos w64 s.args.x s.requires) at c.before.before.put_number.ensures)

returns-2 : tie.Need-returns-else-html
unfolding shown_number either
returns-2 c =
    let s = c.before.before.before.before.before.before in
    rw c.before.before.before.before.if-html.false (rw (to_z_pos w64 s.args.x s.requires) at c.before.before.put_fixed.ensures)

pub put_shown_number_spec : {M : Type 1} → statement M
put_shown_number_spec =
    tie.close
    (tie.spec
    (λ c. search rules)
    (λ c κs. search rules)
    (λ c. search rules)
    (λ c κs. search rules)
    (λ c. search rules)
    returns
    (λ c. search rules)
    returns-2)
