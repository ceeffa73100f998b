-- The totals are taken, question 12 is put to them, and the others to the plain ratio (Asked). Assumes nothing.
use borrow.Author.Rules.{rules}
use Prim.Native.Nat.{◌+◌}
use native.Mathlib.Omega.{arith}
use mathlib.Core.Path.{◌≡◌, sym, ◌∙◌}
use mathlib.Core.Bool.{true}
use lib.IntN.{pos}
use Rattle.rules.specs.Record.{most_amount}
use Rattle.rules.specs.Completion.{most_ultimate}
use Rattle.rules.specs.Expense.{ratio_pass}
use Rattle.laws.proofs.Lists.{total_most}
use Rattle.ulae_ratio.proofs.Asked.{paid_most, plain_most, paid_least, spent_most, twelve, others}
use Rattle.ulae_ratio.proofs.ratio_of.Statement.{statement}
use Rattle.ulae_ratio.proofs.ratio_of.Tie as tie

add-n : tie.Need-overflow_add-n
add-n c = search rules

sum-of-requires : tie.Need-sum_of-total-requires
sum-of-requires c κs =
    let s = c.before in
    let h = s.requires.1 in
    (omega (arith, c.sum_of-arg-1.given, h.few), (omega (arith, h.few), λ i l. paid_most s.args.paid.now s.args.provisions.now i most_ultimate (h.ultimates i (omega arith))))

sum-of-requires-2 : tie.Need-sum_of-spent-requires
sum-of-requires-2 c κs =
    let h = c.before.before.before.requires.1 in
    (omega (arith, c.sum_of-arg-2-1.given, h.few), (omega (arith, h.few), λ i l. omega (arith, h.ulae i)))

ratio-passes-requires : tie.Need-ratio_passes-requires
ratio-passes-requires c κs = search rules

returns : tie.Need-returns-then-not-ratio_passes
returns c =
    let at = c.before in
    twelve _ _ _ at.before.before.before.sum_of-total.result at.before.sum_of-spent.result _ _ at.before.before.before.sum_of-total.ensures at.before.sum_of-spent.ensures
    (sym at.ratio_passes.ensures ∙ c.if-not-ratio_passes.true)

yes_twelve : (c : tie.Else-not-ratio_passes) → ratio_pass (pos c.before.before.before.before.sum_of-total.result) c.before.before.sum_of-spent.result ≡ true
yes_twelve c = sym c.before.ratio_passes.ensures ∙ c.if-not-ratio_passes.false

plain-ratio-requires : tie.Need-plain_ratio-plain-requires
plain-ratio-requires c κs =
    let at = c.before.before in
    let s = at.before.before.before.before in
    let h = s.requires.1 in
    (paid_least _ _ (yes_twelve c), omega (arith, at.sum_of-spent.ensures, total_most most_amount s.args.ulae.now h.ulae (s.args.k + 1), h.few))

used-ratio-requires : tie.Need-used_ratio-requires
used-ratio-requires c κs =
    let one = c.before in
    let s = one.before.before.before.before.before.before in
    let h = s.requires.1 in (
      s.requires.0,
      record {
        few = h.few;
        ultimates = h.ultimates;
        reporting = h.reporting;
        weight = h.weight;
        ratio = rw c.plain_ratio-plain.ensures (plain_most _ _ (omega (arith, spent_most _ _ (yes_twelve one))));
      },
    )

returns-2 : tie.Need-returns
returns-2 c =
    let plain = c.before in
    let one = plain.before in
    let at = one.before.before in
    others _ _ _ at.before.before.sum_of-total.result at.sum_of-spent.result _ _ at.before.before.sum_of-total.ensures at.sum_of-spent.ensures
    (yes_twelve one) plain.plain_ratio-plain.result _ _ plain.plain_ratio-plain.ensures c.used_ratio.ensures

pub ratio_of_spec : {M : Type 1} → statement M
ratio_of_spec =
    tie.close
    (tie.spec
    add-n
    sum-of-requires
    sum-of-requires-2
    ratio-passes-requires
    returns
    plain-ratio-requires
    used-ratio-requires
    returns-2)
