-- The number, the shares and the levels, one after another (put_three). Assumes nothing.
use borrow.Author.Rules.{rules}
use mathlib.Core.Path.{◌≡◌, ◌∙◌}
use native.Mathlib.Omega.{arith}
use mir.Syntax.{w64}
use mir.Val.{to_z, of_z}
use mir.Facts.{to_z-of_z}
use borrow.Author.Rules.{rules, sfits_of}
use Rattle.composing.proofs.Puts.{put_three}
use Rattle.history_places.specs.Places.{position_entry}
use Rattle.history_csv.specs.Csv.{number_line, position_lines}
use Rattle.history_csv.proofs.put_position_lines.Statement.{statement}
use Rattle.history_csv.proofs.put_position_lines.Tie as tie

put-entry-lines-requires : tie.Need-put_entry_lines-levels-requires
put-entry-lines-requires c κs = (c.before.before.before.before.before.before.before.before.before.before.before.before.before.before.before.requires.0, (c.before.before.before.before.before.before.before.before.before.before.before.before.before.before.before.requires.1, omega (arith, c.before.before.before.before.before.before.before.before.before.before.before.before.before.before.before.requires.0.1)))

put-entry-lines-requires-2 : tie.Need-put_entry_lines-requires
put-entry-lines-requires-2 c κs = (c.before.before.before.before.before.before.before.before.before.before.before.before.before.before.before.before.before.before.before.before.before.before.before.requires.0, (c.before.before.before.before.before.before.before.before.before.before.before.before.before.before.before.before.before.before.before.before.before.before.before.requires.1, omega (arith, c.before.before.before.before.before.before.before.before.before.before.before.before.before.before.before.before.before.before.before.before.before.before.before.requires.0.1)))

returns : tie.Need-returns
unfolding position_lines number_line
returns c =
    let s = c.before.before.before.before.before.before.before.before.before.before.before.before.before.before.before.before.before.before.before.before.before.before.before.before.before.before.args in
    let kept : to_z w64 (of_z w64 c.before.before.before.before.before.before.before.before.before.before.before.before.before.before.before.before.before.before.before.before.before.before.before.before.entry_of-number.result) ≡ position_entry s.list.now s.width s.a 0 = to_z-of_z {w = w64} (sfits_of c.before.before.before.before.before.before.before.before.before.before.before.before.before.before.before.before.before.before.before.before.before.before.before.before.entry_of-number.type_inv) ∙ c.before.before.before.before.before.before.before.before.before.before.before.before.before.before.before.before.before.before.before.before.before.before.before.before.entry_of-number.ensures in
    put_three (rw kept at c.before.before.before.before.before.before.before.before.before.before.before.before.before.before.before.before.before.before.put_line-shares.ensures) c.before.before.before.before.before.before.before.before.before.before.put_entry_lines-levels.ensures c.before.before.put_entry_lines.ensures

pub put_position_lines_spec : {M : Type 1} → statement M
put_position_lines_spec =
    tie.close
    (tie.spec
    (λ c κs. search rules)
    (λ c. search rules)
    (λ c κs. search rules)
    put-entry-lines-requires
    (λ c. search rules)
    put-entry-lines-requires-2
    (λ c. search rules)
    returns)
