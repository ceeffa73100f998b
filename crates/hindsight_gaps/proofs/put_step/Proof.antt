-- The mark is stored, and after it the gaps by the fit (fitted_gaps), or zeros. Assumes nothing.
use borrow.Author.Rules.{rules}
use mathlib.Core.Path.{◌≡◌, refl, sym, ◌∙◌}
use mathlib.Core.List.{List, [], ◌∷◌}
use Prim.Native.Nat.{ℕ, ◌+◌, zero-le}
use native.Mathlib.Nat.{mul-le-mul}
use native.Mathlib.Omega.{arith}
use lib.IntN.{ℤ, pos}
use lib.ListN.{set, replicate}
use lib.Seq.{sets}
use Rattle.rules.specs.Hindsight.{step_mark, step_gaps, step_entries}
use Rattle.laws.proofs.Joined.{sets_append}
use Rattle.hindsight_gaps.proofs.Steps.{take_zeros, level_most, marked_gaps, marked_sum, fitted_gaps}
use Rattle.hindsight_gaps.proofs.put_step.Statement.{statement}
use Rattle.hindsight_gaps.proofs.put_step.Tie as tie

put-natural-requires : tie.Need-put_natural-next-requires
put-natural-requires c κs = search rules

slice-aggregate-put-integers : tie.Need-slice_bounds-put_integers-end
slice-aggregate-put-integers c = search rules

put-integers-requires : tie.Need-put_integers-requires
put-integers-requires c κs = search rules

same_length : tie.Need-shape_of-out-then-mark-ne-ACCEPTED
same_length c = search rules

-- the mark, and what is stored after it
entries : (k : ℕ) (n : List ℕ) (p : List ℤ) (h e at mark next : ℕ) (out : List ℤ) → mark ≡ step_mark k n p h → next ≡ at + 1
    → sets (set out at (pos mark)) next (step_gaps k n p h e) ≡ sets out at (step_entries k n p e h)
unfolding step_entries
entries k n p h e at mark next out m s = rw m (sets_append (pos (step_mark k n p h) ∷ []) (step_gaps k n p h e) out at next s)

returns : tie.Need-returns-then-mark-ne-ACCEPTED
returns c =
    let zeros = c.before in
    let then = zeros.before.before.before in
    let mark = then.before.before.put_natural-next in
    let s = then.before.before.before.before in
    let n = s.args.exposures.now in
    let p = s.args.increments.now in
    let fit = s.requires.1.1 in
    let gaps = marked_gaps s.args.k n p s.args.h s.args.mark s.args.latest s.args.shares.now fit s.args.index then.if-mark-ne-ACCEPTED.true in (
      marked_sum s.args.k n p s.args.h s.args.mark s.args.latest s.args.shares.now fit s.args.index then.if-mark-ne-ACCEPTED.true,
      (
        zero-le,
        rw (zeros.put_integers.ensures.1, mark.ensures.1, take_zeros s.args.h 16 (omega (arith, s.requires.0.0.few, s.requires.0.1.0)), ← gaps)
            (entries s.args.k n p s.args.h s.args.index s.args.at s.args.mark mark.result s.args.out.now fit.marked mark.ensures.0),
      ),
    )

mul-put-gaps : tie.Need-overflow_mul-latest
mul-put-gaps c =
    let s = c.before.before.before.before.before in
    omega (arith, mul-le-mul s.requires.1.1.level_most s.requires.1.0)

put-gaps-requires : tie.Need-put_gaps-requires
put-gaps-requires c κs =
    let s = c.before.before.before.before.before in
    let fit = s.requires.1.1 in
    ((s.requires.0.0, (s.requires.0.1.0, omega (arith, s.requires.0.1.1, c.before.before.before.put_natural-next.ensures.0))), (level_most s.args.latest s.args.index fit.level_most s.requires.1.0, fit.share_most))

same-length-2 : tie.Need-shape_of-out
same-length-2 c = search rules

returns-2 : tie.Need-returns
returns-2 c =
    let put = c.before.put_gaps in
    let else = c.before.before.before in
    let mark = else.before.before.put_natural-next in
    let s = else.before.before.before.before in
    let n = s.args.exposures.now in
    let p = s.args.increments.now in
    let fit = s.requires.1.1 in
    let gaps = fitted_gaps s.args.k n p s.args.h s.args.mark s.args.latest s.args.shares.now fit s.args.index else.if-mark-ne-ACCEPTED.false in (
      rw (← gaps) put.ensures.0,
      (
        put.ensures.1.0,
        rw (put.ensures.1.1, mark.ensures.1, gaps)
            (entries s.args.k n p s.args.h s.args.index s.args.at s.args.mark mark.result s.args.out.now fit.marked mark.ensures.0),
      ),
    )

pub put_step_spec : {M : Type 1} → statement M
put_step_spec =
    tie.close
    (tie.spec
    put-natural-requires
    slice-aggregate-put-integers
    put-integers-requires
    same_length
    returns
    mul-put-gaps
    put-gaps-requires
    same-length-2
    returns-2)
