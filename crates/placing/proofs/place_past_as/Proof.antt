-- Every kind is the one style. Assumes nothing.
use Prim.Native.Nat.{◌+◌}
use native.Mathlib.Omega.{arith}
use mathlib.Core.Path.{◌≡◌}
use lib.ListN.{get_or, replicate, get_or-replicate}
use Rattle.laws.proofs.TriangleRows.{cells_most}
use Rattle.placing.specs.Placing.{grid}
use Rattle.placing.proofs.Placed.{past_same}
use borrow.Author.Rules.{rules}
use Rattle.placing.proofs.place_past_as.Statement.{statement}
use Rattle.placing.proofs.place_past_as.Tie as tie

returns : tie.Need-returns
returns c =
    let s = c.before.before.before.before in
    let same =
    past_same (λ m. get_or (replicate 136 s.args.style) m 0) (λ m. s.args.style) s.args.c s.args.start s.args.k (s.args.k + 1) s.args.figures.now
    (grid s.args.values.now s.args.styles.now) (omega arith) (λ m h. get_or-replicate 136 m s.args.style 0 (omega (arith, cells_most s.args.k s.requires.0))) in
    rw same at c.place_past.ensures

pub place_past_as_spec : {M : Type 1} → statement M
place_past_as_spec = tie.close (tie.spec (λ c κs. search rules) returns)
