-- The number is small enough for a signed one. Assumes nothing.
use native.Mathlib.Omega.{arith}
use mir.Syntax.{w64}
use mir.ValLaws.{to_z_pos}
use borrow.Author.Rules.{rules}
use Rattle.hindsight_csv.proofs.put_number_line.Statement.{statement}
use Rattle.hindsight_csv.proofs.put_number_line.Tie as tie

returns : tie.Need-returns
returns c =
    let s = c.before.before.before.before.before.before.before in
    rw (to_z_pos w64 s.args.n (omega (arith, s.requires))) at c.before.before.put_setting_line.ensures

pub put_number_line_spec : {M : Type 1} → statement M
put_number_line_spec = tie.close (tie.spec (λ c. search rules) (λ c κs. search rules) (λ c. search rules) returns)
