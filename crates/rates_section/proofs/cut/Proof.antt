-- The whole word where it is short (take_all). Assumes nothing.
use native.Mathlib.Omega.{arith}
use mathlib.Core.Path.{sym}
use lib.Seq.{take_all, length-take-le}
use Rattle.rates_section.specs.RatesSection.{most_typed}
use borrow.Author.Rules.{rules}
use Rattle.rates_section.proofs.cut.Statement.{statement}
use Rattle.rates_section.proofs.cut.Tie as tie

returns : tie.Need-returns-then-word-le-MOST_TYPED
returns c = sym (take_all most_typed c.before.args.word.now (omega arith))

slice-aggregate-result : tie.Need-slice_bounds-result-end
slice-aggregate-result c = sym (length-take-le most_typed c.before.args.word.now (omega arith))

pub cut_spec : {M : Type 1} → statement M
cut_spec =
    tie.close
    (tie.spec
    returns
    slice-aggregate-result
    (λ c. search rules))
