-- Three values in a row, or none. Assumes nothing.
use mir.Syntax.{w64}
use mathlib.Core.Path.{◌≡◌, ◌∙◌}
use mathlib.Core.List.{List, [], ◌∷◌}
use native.Mathlib.Omega.{arith}
use Prim.Native.Nat.{ℕ, suc, ◌+◌, ◌*◌}
use lib.IntN.{ℤ}
use lib.ListN.{set}
use lib.Seq.{sets}
use mir.Facts.{to_z-of_z}
use borrow.Author.Rules.{rules}
use Rattle.laws.proofs.Signed.{held}
use Rattle.rest_years.specs.RestYears.{left_of}
use Rattle.triangle_findings.proofs.Rests.{total_held}
use Rattle.rest_years.proofs.Held.{entry_held}
use Rattle.rest_years.proofs.Years.{row_no, row_yes}
use Rattle.rest_years.proofs.set_row.Goals as goal
use Rattle.rest_years.proofs.set_row.Goals.{After-left_of-left}

-- stored one after another
three : (l : List ℤ) (at : ℕ) (a b c x y z : ℤ) (ys : List ℤ) → x ≡ a → y ≡ b → z ≡ c → ys ≡ a ∷ b ∷ c ∷ []
    → set (set (set l at x) (at + 1) y) (at + 2) z ≡ sets l at ys
three l at a b c x y z ys ex ey ez e =
    let one : at + 1 ≡ suc at = omega arith in
    let two : at + 2 ≡ suc (suc at) = omega arith in
    rw (ex, ey, ez, e, one, two)

left-held : (c : After-left_of-left) → held c.left_of-left.result ≡ left_of c.args.corners.now c.args.columns.now c.args.h
left-held c = to_z-of_z {w = w64} (search rules) ∙ c.left_of-left.ensures

pub returns-then-left-lt1 : goal.returns-then-left-lt1
returns-then-left-lt1 c =
    let t = c.args.corners.now in
    let v = c.args.columns.now in
    let left = left-held (goal.at.returns-then-left-lt1 c).After-left_of-left in
    let row = row_no t v c.args.h (rw left at c.if-left-lt1.true) in (
      rw row.0,
      three c.args.values.now (3 * c.args.rows) _ _ _ _ _ _ _ (entry_held t c.requires.1.1.0 c.args.h) (total_held v c.requires.1.1.1 c.args.h) left row.1,
    )

pub returns : goal.returns
returns c =
    let row = row_yes c.args.corners.now c.args.columns.now c.args.h (rw (left-held (goal.at.returns c).After-left_of-left) at c.if-left-lt1.false) in
    (omega (arith, row.0), rw row.1)
