-- Numbers below 2^63 are held as they are (to_z_pos). Assumes nothing.
use Prim.Native.Nat.{◌+◌}
use native.Mathlib.Omega.{arith}
use mir.Syntax.{w64}
use mir.ValLaws.{to_z_pos}
use Rattle.summary_figures.specs.Summary.{given_of}
use borrow.Author.Rules.{rules}
use Rattle.summary_figures.proofs.fill_given.Statement.{statement}
use Rattle.summary_figures.proofs.fill_given.Tie as tie

returns : tie.Need-returns
unfolding given_of
returns c =
    let s = c.before.before.before.before in
    let told = s.requires.1 in
    rw (
      to_z_pos w64 s.args.year (omega arith),
      to_z_pos w64 s.args.weight (omega arith),
      to_z_pos w64 s.args.tail (omega arith),
      to_z_pos w64 (s.args.k + 1) (omega arith),
      to_z_pos w64 s.args.correction.plain (omega arith),
      to_z_pos w64 s.args.correction.reported (omega arith),
      to_z_pos w64 s.args.correction.paid (omega arith),
      to_z_pos w64 s.args.correction.divisor (omega arith),
    )

pub fill_given_spec : {M : Type 1} → statement M
fill_given_spec =
    tie.close
    (tie.spec
    (λ c. search rules)
    (λ c. search rules)
    (λ c. search rules)
    (λ c. search rules)
    (λ c. search rules)
    (λ c. search rules)
    (λ c. search rules)
    (λ c. search rules)
    (λ c. search rules)
    (λ c. search rules)
    (λ c. search rules)
    (λ c. search rules)
    (λ c. search rules)
    (λ c. search rules)
    (λ c. search rules)
    (λ c. search rules)
    (λ c. search rules)
    returns)
