-- The rates are accepted, so that the call hands back the indices that the line makes. Assumes nothing.
use mathlib.Core.Path.{◌≡◌, ap, ◌∙◌}
use mathlib.Core.List.{List, map}
use Prim.Native.Nat.{ℕ, ◌+◌}
use native.Mathlib.Omega.{arith}
use lib.IntN.{pos}
use lib.ListN.{take}
use lib.Seq.{sets}
use Rattle.rules.specs.Inflation.{inflation_answer, indices_of}
use Rattle.rules.specs.declared.Indices.{Indices}
use Rattle.inflation_line.specs.InflationLine.{shape_of}
use Rattle.sheet.specs.Sheet.{indices_made}
use Rattle.inflation_reading.proofs.Made.{stands_accepted, call_indices, call_small, call_length}
use borrow.Author.Rules.{rules}
use Rattle.inflation_reading.proofs.put_made.Statement.{statement}
use Rattle.inflation_reading.proofs.put_made.Tie as tie

-- the call that was made
values : (i : tie.After-inflation_indices-made) → i.inflation_indices-made.result.values ≡ (indices_of (shape_of i.before.before.before.args.line.now) (i.before.before.before.args.k + 1)).values
values i = ap (λ (r : Indices). r.values) i.inflation_indices-made.ensures ∙ rw i.before.shape_of.ensures

accepted : (i : tie.After-inflation_indices-made) → inflation_answer (shape_of i.before.before.before.args.line.now) (i.before.before.before.args.k + 1) ≡ 0
accepted i = stands_accepted i.before.before.before.args.history _ i.before.before.before.args.place _ i.before.before.before.requires.1.1

put-naturals-requires : tie.Need-put_naturals-requires
put-naturals-requires c κs =
    let i = c.before.before.before in
    rw (values i)
    (omega (arith, call_length _ _ (accepted i) (omega (arith, i.before.before.before.requires.0))), (omega (arith, i.before.before.before.requires.1.0), call_small _ _ (accepted i)))

returns : tie.Need-returns
unfolding indices_made
returns c =
    let i = c.before.before.before.before.before in
    let a = i.before.before.before.args in
    c.before.put_naturals.ensures.1
    ∙ ap (λ (xs : List ℕ). sets a.list.now a.at (map pos (take (a.k + 1) xs))) (values i)
    ∙ ap (λ (xs : List ℕ). sets a.list.now a.at (map pos xs)) (call_indices _ _ (accepted i))

pub put_made_spec : {M : Type 1} → statement M
put_made_spec =
    tie.close
    (tie.spec
    (λ c κs. search rules)
    (λ c. search rules)
    (λ c κs. search rules)
    (λ c. search rules)
    (λ c. search rules)
    put-naturals-requires
    (λ c. search rules)
    returns)
