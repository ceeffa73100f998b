-- The word at that place. Assumes nothing.
use mathlib.Core.Path.{ap, ◌∙◌}
use mathlib.Core.List.{List, []}
use Prim.Native.Nat.{ℕ}
use lib.ListN.{get_or}
use Rattle.composing.proofs.Puts.{put_same}
use Rattle.sheet_wording.specs.Problem.{named}
use Rattle.inflation_wording.proofs.Words.{shapes_are}
use borrow.Author.Rules.{rules}
use Rattle.inflation_wording.proofs.put_shape.Statement.{statement}
use Rattle.inflation_wording.proofs.put_shape.Tie as tie

returns : tie.Need-returns
returns c =
    let words = c.before.before.before.cell_at in
    put_same (ap named (words.ensures ∙ ap (λ (l : List (List ℕ)). get_or l c.before.before.before.before.before.before.before.before.args.place []) shapes_are)) c.before.before.put_named.ensures

pub put_shape_spec : {M : Type 1} → statement M
put_shape_spec =
    tie.close
    (tie.spec
    (λ c κs. search rules)
    (λ c κs. search rules)
    (λ c. search rules)
    returns)
