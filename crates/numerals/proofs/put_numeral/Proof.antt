-- The sign and the groups; then, where there are decimals, the point and the digits (put_whole_numeral, put_part_numeral). Assumes nothing.
use mathlib.Core.Path.{◌≡◌}
use mir.Facts.{to_z-of_z}
use lib.IntN.{nat_abs}
use Rattle.numerals.proofs.Groups.{put_whole_numeral, put_part_numeral}
use borrow.Author.Rules.{rules}
use Rattle.numerals.proofs.put_numeral.Statement.{statement}
use Rattle.numerals.proofs.put_numeral.Tie as tie

returns : tie.Need-returns-then-d-eq0
returns c =
    let s = c.before.before.before.before.before.before.before.before.before.before.before.before.before.before in
    let kept = to_z-of_z s.ranges.z in
    put_whole_numeral s.args.before.now s.args.after.now s.args.d s.args.z c.if-d-eq0.true (rw kept at c.before.before.before.before.before.before.before.before.before.before.size_of-n.ensures) c.before.before.before.before.shortened.ensures (rw kept at c.before.before.before.before.before.before.before.before.put_sign-whole.ensures) c.before.before.before.put_grouped-point.ensures

returns-2 : tie.Need-returns-else-d-eq0
returns-2 c =
    let s = c.before.before.before.before.before.before.before.before.before.before.before.before.before.before.before.before.before.before.before.before.before.before in
    let kept = to_z-of_z s.ranges.z in
    put_part_numeral s.args.before.now s.args.after.now s.args.d s.args.z c.before.before.before.before.before.before.before.before.if-d-eq0.false (rw kept at c.before.before.before.before.before.before.before.before.before.before.before.before.before.before.before.before.before.before.size_of-n.ensures) c.before.before.before.before.before.before.before.before.before.before.before.before.shortened.ensures
    (rw kept at c.before.before.before.before.before.before.before.before.before.before.before.before.before.before.before.before.put_sign-whole.ensures)
    c.before.before.before.before.before.before.before.before.before.before.before.put_grouped-point.ensures
    c.before.before.before.before.before.before.put_byte-decimals.ensures
    c.before.before.put_last.ensures

pub put_numeral_spec : {M : Type 1} → statement M
put_numeral_spec =
    tie.close
    (tie.spec (λ c κs. search rules) (λ c κs. search rules) (λ c κs. search rules) (λ c κs. search rules) (λ c κs. search rules) (λ c κs. search rules) (λ c. search rules) returns (λ c. search rules) returns-2)
