-- The figures stand one place after another (mul-one). Assumes nothing.
use Prim.Native.Nat.{◌+◌, ◌*◌, ◌≤◌}
use native.Mathlib.Nat.{mul-one}
use native.Mathlib.Omega.{arith}
use mathlib.Core.Path.{◌∙◌}
use lib.ListN.{length}
use mir.Syntax.{w64}
use mir.Facts.{to_z-of_z}
use Rattle.laws.proofs.Sums.{sum_to_same}
use Rattle.vectors.specs.Vectors.{figure_at}
use Rattle.section_numbers.specs.Numbers.{sum_of}
use Rattle.section_numbers.proofs.Bounds.{sum_most}
use borrow.Author.Rules.{rules, sfits_of}
use Rattle.section_numbers.proofs.section_sum.Statement.{statement}
use Rattle.section_numbers.proofs.section_sum.Tie as tie

sum-along-requires : tie.Need-sum_along-requires
sum-along-requires c κs =
    let s = c.before in
    let long : 1310 ≤ length s.args.figures.now = search rules in
    (omega (arith, s.requires.few), (λ i h. rw (mul-one i) (s.requires.small i h), (search rules, λ i h. rw (mul-one i) (omega (arith, long, s.requires.inside)))))

returns : tie.Need-returns
unfolding sum_of
returns c =
    let s = c.before.before in
    let xs = s.args.figures.now in
    let same = sum_to_same (λ i. figure_at xs (s.args.start + i * 1)) (λ i. figure_at xs (s.args.start + i)) s.args.n (λ i h. rw (mul-one i)) in
    let is = to_z-of_z {w = w64} {z = c.sum_along.result} (sfits_of c.sum_along.type_inv) ∙ c.sum_along.ensures ∙ same in
    (is, rw is (sum_most s.args.start s.args.n xs s.requires))

pub section_sum_spec : {M : Type 1} → statement M
section_sum_spec = tie.close (tie.spec sum-along-requires returns)
