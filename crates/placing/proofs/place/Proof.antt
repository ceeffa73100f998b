-- Every kind is the one style. Assumes nothing.
use Prim.Native.Nat.{ℕ, ◌+◌, ◌*◌, ◌<◌}
use native.Mathlib.Omega.{arith}
use mathlib.Core.Path.{◌≡◌, ◌∙◌, ap}
use lib.ListN.{get_or, replicate, get_or-replicate}
use Rattle.placing.specs.Placing.{grid}
use Rattle.placing.proofs.Placed.{placed_same}
use borrow.Author.Rules.{rules}
use Rattle.placing.proofs.place.Statement.{statement}
use Rattle.placing.proofs.place.Tie as tie

place-kinds-requires : tie.Need-place_kinds-requires
place-kinds-requires c κs = search rules

returns : tie.Need-returns
returns c =
    let s = c.before.before.before.before in
    let same =
    placed_same (λ m. get_or (replicate 136 s.args.style) (0 + m) 0) (λ m. s.args.style) s.args.first s.args.step s.args.start s.args.n s.args.figures.now
    (grid s.args.values.now s.args.styles.now)
    (λ m h. let e : 0 + m ≡ m = omega arith in rw e (get_or-replicate 136 m s.args.style 0 (omega arith))) in
    rw same at c.place_kinds.ensures

pub place_spec : {M : Type 1} → statement M
place_spec = tie.close (tie.spec place-kinds-requires returns)
