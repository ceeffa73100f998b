-- The first number of questions 7 and 8, and where they have none that of questions 9 and 10 of the factors of the walk. Assumes nothing.
use mathlib.Core.Path.{◌≡◌, sym, ◌∙◌}
use mathlib.Core.List.{List}
use native.Mathlib.Nat.{le_refl}
use native.Mathlib.Omega.{arith}
use borrow.Author.Rules.{rules}
use lib.IntN.{ℤ}
use Rattle.rules.specs.Separation.{separate_answer, factors_of}
use Rattle.totals.specs.Summed.{Summed}
use Rattle.separation.specs.Walk.{factors_to}
use Rattle.separation.proofs.Steps.{latest_running}
use Rattle.separation.proofs.FactorQuestions.{first_gives, factors_give, none_back, factors_back}
use Rattle.separation.proofs.separate_totals.Statement.{statement}
use Rattle.separation.proofs.separate_totals.Tie as tie

totals-answer-requires : tie.Need-totals_answer-first-requires
totals-answer-requires c κs = search rules

refused-requires : tie.Need-refused-requires
refused-requires c κs = search rules

-- q is a square whose totals these are
abbrev Whose : tie.Start → List (List ℤ) → Type 0
Whose s q = Summed q s.args.k s.args.columns.now s.args.diagonals.now

abbrev start : tie.After-totals_answer-first → tie.Start
start c = c.before.before.before.before

returns : tie.Need-returns-then-first-ne-ACCEPTED
returns c q of =
    let at = c.before.before in
    let no = first_gives q (start at).args.k _ (at.totals_answer-first.ensures.number q of) c.before.if-first-ne-ACCEPTED.true in
    (c.refused.ensures.0 ∙ no, c.refused.ensures.1 ∙ none_back q (start at).args.k _ no c.before.if-first-ne-ACCEPTED.true)

level-of-requires : tie.Need-level_of-level-requires
level-of-requires c κs =
    let at = c.before in
    ((at.before.totals_answer-first.ensures.ready at.if-first-ne-ACCEPTED.false).diagonal _ (le_refl _), (start at.before).requires.0)

share-step-requires : tie.Need-share_step-f-requires
share-step-requires c κs =
    let of = c.before.before.before in
    let at = of.before.before in
    (at.before.totals_answer-first.ensures.ready at.if-first-ne-ACCEPTED.false, (omega arith, ((start at.before).requires.0, of.level_of-level.ensures)))

-- the factors are those of the square
abbrev passed : tie.After-share_step-f → tie.Else-first-ne-ACCEPTED
passed c = c.before.before.before.before.before.before

abbrev begun : tie.After-share_step-f → tie.Start
begun c = start (passed c).before

found : (c : tie.After-share_step-f) (q : List (List ℤ)) → Whose (begun c) q → c.share_step-f.result ≡ factors_of q (begun c).args.k
unfolding factors_to factors_of
found c q of =
    let at = passed c in
    let totals = at.before.totals_answer-first.ensures in
    let k = (begun c).args.k in
    c.share_step-f.ensures q (totals.sizes q of at.if-first-ne-ACCEPTED.false) (totals.corners q of at.if-first-ne-ACCEPTED.false) (le_refl k) (latest_running q k)

factors-answer-requires : tie.Need-factors_answer-answer-requires
factors-answer-requires c κs = search rules

-- and give the answer
abbrev walked : tie.After-factors_answer-answer → tie.After-share_step-f
walked c = c.before.before.before

answered : (c : tie.After-factors_answer-answer) (q : List (List ℤ)) → Whose (begun (walked c)) q → c.factors_answer-answer.result ≡ separate_answer q (begun (walked c)).args.k
answered c q of =
    let at = passed (walked c) in
    c.factors_answer-answer.ensures
    ∙ factors_give q (begun (walked c)).args.k (sym (at.before.totals_answer-first.ensures.number q of) ∙ at.if-first-ne-ACCEPTED.false) _ (found (walked c) q of)

refused-requires-2 : tie.Need-refused-requires-then-answer-ne-ACCEPTED
refused-requires-2 c κs = search rules

returns-2 : tie.Need-returns-then-answer-ne-ACCEPTED
returns-2 c q of = (c.refused-then-answer-ne-ACCEPTED.ensures.0 ∙ answered c.before.before q of, c.refused-then-answer-ne-ACCEPTED.ensures.1 ∙ none_back q (begun (walked c.before.before)).args.k _ (answered c.before.before q of) c.before.if-answer-ne-ACCEPTED.true)

returns-3 : tie.Need-returns
returns-3 c q of =
    let at = c.before in
    let k = (begun (walked at)).args.k in
    (answered at q of, found (walked at) q of ∙ factors_back q k _ (answered at q of) c.if-answer-ne-ACCEPTED.false)

pub separate_totals_spec : {M : Type 1} → statement M
separate_totals_spec =
    tie.close
    (tie.spec
    totals-answer-requires
    refused-requires
    returns
    level-of-requires
    share-step-requires
    factors-answer-requires
    refused-requires-2
    returns-2
    returns-3)
