-- The five runs of entries follow one another (sets_append). Assumes nothing.
use borrow.Author.Rules.{rules}
use native.Mathlib.Omega.{arith}
use mathlib.Core.Path.{◌≡◌, ◌∙◌}
use mathlib.Core.List.{List, [], map, ◌∷◌, ◌++◌}
use Prim.Native.Nat.{ℕ, suc, ◌+◌}
use lib.IntN.{ℤ, pos}
use lib.ListN.{length, set, take}
use lib.Seq.{sets}
use Rattle.laws.proofs.Joined.{sets_append}
use Rattle.entries.proofs.Runs.{length_naturals}
use Rattle.reader.specs.Fields.{assumption_fields}
use Rattle.reader.proofs.put_assumptions.Statement.{statement}
use Rattle.reader.proofs.put_assumptions.Tie as tie

-- runs one after another: a list, a second list, one entry, a third list, one entry
five-runs : (l : List ℤ) (at : ℕ) (a b e : List ℤ) (y z : ℤ) {p q r t : ℕ} → p ≡ at + length a → q ≡ p + length b → r ≡ suc q → t ≡ suc q + length e
    → set (sets (set (sets (sets l at a) p b) q y) r e) t z ≡ sets l at (a ++ (b ++ (y ∷ (e ++ (z ∷ [])))))
five-runs l at a b e y z {p} {q} {r} {t} i j k m =
    let rest = e ++ (z ∷ []) in
    rw k
    (sets_append e (z ∷ []) (set (sets (sets l at a) p b) q y) (suc q) t m
    ∙ sets_append b (y ∷ rest) (sets l at a) p q j
    ∙ sets_append a (b ++ (y ∷ rest)) l at p i)

add-n : tie.Need-overflow_add-n
add-n c = search rules

put-naturals-requires : tie.Need-put_naturals-a-requires
put-naturals-requires c κs = (search rules, (search rules, λ i h. c.before.before.requires.1.0 i))

put-naturals-requires-2 : tie.Need-put_naturals-b-requires
put-naturals-requires-2 c κs = (search rules, (search rules, λ i h. c.before.before.before.before.before.before.requires.1.1.0 i))

put-natural-requires : tie.Need-put_natural-c-requires
put-natural-requires c κs = search rules

put-naturals-requires-3 : tie.Need-put_naturals-d-requires
put-naturals-requires-3 c κs =
    (search rules, (search rules, λ i h. c.before.before.before.before.before.before.before.before.before.before.before.before.before.requires.1.1.1.1.0 i))

put-natural-requires-2 : tie.Need-put_natural-requires
put-natural-requires-2 c κs = search rules

same_length : tie.Need-shape_of-list
same_length c = search rules

returns : tie.Need-returns
unfolding assumption_fields
returns c =
    let after-ulae = c.before.before.before.before in
    let after-weight = after-ulae.before.before.before.before in
    let after-reporting = after-weight.before.before.before in
    let after-indices = after-reporting.before.before.before.before in
    let start = after-indices.before.before.before in
    let s = start.args in
    let n = s.k + 1 in
    let e = map pos (take n s.indices.now) in
    let b = map pos (take n s.reporting.now) in
    let u = map pos (take n s.ulae.now) in
    let se : length e ≡ n = length_naturals n s.indices.now (omega (arith, after-indices.before.put_naturals-arg-2-1.given, start.requires.0)) in
    let sb : length b ≡ n = length_naturals n s.reporting.now (omega (arith, after-reporting.before.put_naturals-arg-4-1.given, start.requires.0)) in
    let su : length u ≡ n = length_naturals n s.ulae.now (omega (arith, after-ulae.before.put_naturals-arg-6-1.given, start.requires.0)) in
    rw (
      c.before.put_natural.ensures.1,
      after-ulae.put_naturals-d.ensures.1,
      after-weight.put_natural-c.ensures.1,
      after-reporting.put_naturals-b.ensures.1,
      after-indices.put_naturals-a.ensures.1,
    )
    (five-runs s.list.now s.at e b u (pos s.weight) (pos s.tail) (omega (arith, after-indices.put_naturals-a.ensures.0))
    (omega (arith, after-reporting.put_naturals-b.ensures.0)) (omega (arith, after-weight.put_natural-c.ensures.0))
    (omega (arith, after-ulae.put_naturals-d.ensures.0, after-weight.put_natural-c.ensures.0)))

pub put_assumptions_spec : {M : Type 1} → statement M
put_assumptions_spec =
    tie.close
    (tie.spec
    add-n
    put-naturals-requires
    put-naturals-requires-2
    put-natural-requires
    put-naturals-requires-3
    put-natural-requires-2
    same_length
    returns)
