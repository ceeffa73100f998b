-- A decimal and a line feed, or nothing. Assumes nothing.
use mir.Syntax.{w64}
use mathlib.Core.Path.{◌≡◌, sym, ◌∙◌}
use mir.Facts.{to_z-of_z}
use borrow.Author.Rules.{rules, sfits_of}
use Rattle.laws.proofs.Signed.{held}
use Rattle.composing.proofs.Puts.{put_none, put_same, put_append}
use Rattle.rest_years.specs.RestYears.{left_of}
use Rattle.rest_years.proofs.Years.{label_no, label_yes}
use Rattle.rest_years.proofs.put_label.Statement.{statement}
use Rattle.rest_years.proofs.put_label.Tie as tie

left-held : (c : tie.After-left_of)
    → held c.left_of.result ≡ left_of c.before.before.args.corners.now c.before.before.args.columns.now c.before.before.args.h
left-held c = to_z-of_z {w = w64} (sfits_of c.left_of.type_inv) ∙ c.left_of.ensures

returns : tie.Need-returns-then-left_of-lt1
returns c =
    let s = c.before.before.before.before.before.before.before.before.before.before.before.args in
    put_same (sym (label_no s.corners.now s.columns.now s.h (rw (left-held c.before.before.before.before.before.before.before.before.before) at c.before.before.before.before.before.before.before.before.if-left_of-lt1.true)))
    (put_append c.before.before.before.before.before.before.put_decimal-a.ensures c.before.before.put_byte.ensures)

returns-2 : tie.Need-returns
returns-2 c =
    let s = c.before.before.before.args in
    put_same (sym (label_yes s.corners.now s.columns.now s.h (rw (left-held c.before) at c.if-left_of-lt1.false))) (put_none _ _)

pub put_label_spec : {M : Type 1} → statement M
put_label_spec =
    tie.close
    (tie.spec
    (λ c κs. search rules)
    (λ c κs. search rules)
    (λ c κs. search rules)
    (λ c. search rules)
    returns
    returns-2)
