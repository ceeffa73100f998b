-- Question 7 of the totals and question 8 of the totals T: each that says no gives its number. Assumes nothing.
use mathlib.Core.Path.{◌≡◌, sym, ap, ◌∙◌}
use mathlib.Core.Bool.{true}
use Prim.Native.Nat.{ℕ, ◌≤◌}
use native.Mathlib.Omega.{arith}
use borrow.Author.Rules.{rules}
use mathlib.Core.List.{List}
use lib.Dec.{eqb}
use lib.IntN.{ℤ, pos, nat_abs}
use lib.ListN.{get_or}
use Rattle.rules.specs.Triangle.{column_total, diagonal_total}
use Rattle.rules.specs.Separation.{billion, column_of, diagonal_of, totals_pass, rests_pass}
use Rattle.laws.proofs.Lists.{get_d_up_to}
use Rattle.totals.specs.CellSizes.{Cells, most_total}
use Rattle.totals.proofs.Cells.{cells_size}
use Rattle.totals.proofs.TotalsMost.{diagonal_most}
use Rattle.totals.specs.Summed.{Summed}
use Rattle.corners.specs.Corners.{TotalsOf, CornersOf}
use Rattle.total_questions.proofs.Totals.{ready}
use Rattle.total_questions.proofs.TotalQuestions.{seven, answer_seven, answer_eight, answer_none}
use Rattle.total_questions.proofs.totals_answer.Statement.{statement}
use Rattle.total_questions.proofs.totals_answer.Tie as tie

add-totals-pass : tie.Need-overflow_add-k
add-totals-pass c = search rules

-- q is a square whose totals these are; there is one
abbrev Whose : tie.Start → List (List ℤ) → Type 0
Whose s q = Summed q s.args.k s.args.columns.now s.args.diagonals.now

-- its columns and its diagonals in the lists
column_at : (s : tie.Start) (q : List (List ℤ)) → Whose s q → (i : ℕ) → i ≤ s.args.k → get_or s.args.columns.now i (pos 0) ≡ column_total q i
column_at s q of i l = ap (λ (v : List ℤ). get_or v i (pos 0)) of.totals.0 ∙ get_d_up_to (column_total q) 16 i (pos 0) (omega (arith, s.requires.0))

diagonal_at : (s : tie.Start) (q : List (List ℤ)) → Whose s q → (i : ℕ) → i ≤ s.args.k → get_or s.args.diagonals.now i (pos 0) ≡ diagonal_total q i
diagonal_at s q of i l = ap (λ (v : List ℤ). get_or v i (pos 0)) of.totals.1 ∙ get_d_up_to (diagonal_total q) 16 i (pos 0) (omega (arith, s.requires.0))

column_most : (s : List (List ℤ)) → Cells s → (j : ℕ) → nat_abs (column_total s j) ≤ most_total
unfolding column_total
column_most s cells j = cells_size s cells (λ r c. eqb c j)

totals-pass-requires : tie.Need-totals_pass-requires
totals-pass-requires c κs =
    let s = c.before.before in
    let one = s.requires.1.0 in
    (omega arith, (λ i l. rw (column_at s one.0 one.1 i (omega arith)) (column_most one.0 one.1.cells i), (s.requires.1.1.0, s.requires.1.1.1.0)))

-- what question 7 answers
abbrev start : tie.After-totals_pass → tie.Start
start c = c.before.before.before

asked : (c : tie.After-totals_pass) (q : List (List ℤ)) → Whose (start c) q → c.totals_pass.result ≡ totals_pass q (start c).args.k
asked c q of =
    let s = start c in
    c.totals_pass.ensures.0
    ∙ seven q s.args.k s.requires.0 of.outside s.args.columns.now s.args.diagonals.now (column_at s q of) (diagonal_at s q of)

returns : tie.Need-returns-then-not-totals_pass
returns c =
    record {
      number = λ q of. answer_seven q _ (sym (asked c.before q of) ∙ c.if-not-totals_pass.true);
      sizes = λ q of z. absurd (omega arith);
      corners = λ q of z. absurd (omega arith);
      ready = λ z. absurd (omega arith);
    }

-- where it says yes, the lists hold the sizes of the totals
totals : (c : tie.Else-not-totals_pass) (q : List (List ℤ)) → Whose (start c.before) q → TotalsOf q (start c.before).args.k c.before.totals_pass.new.v c.before.totals_pass.new.d
unfolding column_of diagonal_of
totals c q of =
    let s = start c.before in
    let pass = c.if-not-totals_pass.false in
    let sizes = c.before.totals_pass.ensures.1 pass in
    record {
      few = s.requires.0;
      outside = of.outside;
      pass = sym (asked c.before q of) ∙ pass;
      column = λ h l. sizes.0 h (omega arith) ∙ ap nat_abs (column_at s q of h l);
      diagonal = λ h l. sizes.1 h (omega arith) ∙ ap nat_abs (diagonal_at s q of h l);
    }

-- those of the one square
abbrev some : (c : tie.Else-not-totals_pass) → TotalsOf (start c.before).requires.1.0.0 (start c.before).args.k c.before.totals_pass.new.v c.before.totals_pass.new.d
some c = totals c (start c.before).requires.1.0.0 (start c.before).requires.1.0.1

diagonals_most : (c : tie.Else-not-totals_pass) (i : ℕ) → i ≤ (start c.before).args.k → get_or c.before.totals_pass.new.d i 0 ≤ billion
diagonals_most c i l =
    let s = start c.before in
    let of = some c in
    rw (of.diagonal i l) (diagonal_most s.requires.1.0.0 s.args.k s.requires.0 of.outside of.pass i l)

fill-corners-requires : tie.Need-fill_corners-requires
fill-corners-requires c κs =
    let at = c.before in
    let s = start at.before in
    (s.requires.0, (diagonals_most at, s.requires.1.1.1.1))

-- what question 8 answers
abbrev passed : tie.After-fill_corners → tie.Else-not-totals_pass
passed c = c.before.before

returns-2 : tie.Need-returns-then-not-fill_corners
returns-2 c =
    let at = passed c.before in
    record {
      number = λ q of.
          let summed = totals at q of in
          answer_eight q _ summed.pass (sym (c.before.fill_corners.ensures q summed).0 ∙ c.if-not-fill_corners.true);
      sizes = λ q of z. absurd (omega arith);
      corners = λ q of z. absurd (omega arith);
      ready = λ z. absurd (omega arith);
    }

-- where it says yes, the list holds the totals T
abbrev begun : tie.Else-not-fill_corners → tie.Start
begun c = start (passed c.before).before

yes-eight : (c : tie.Else-not-fill_corners) (q : List (List ℤ)) → Whose (begun c) q → rests_pass q (begun c).args.k ≡ true
yes-eight c q of = sym (c.before.fill_corners.ensures q (totals (passed c.before) q of)).0 ∙ c.if-not-fill_corners.false

corners-found : (c : tie.Else-not-fill_corners) (q : List (List ℤ)) → Whose (begun c) q → CornersOf q (begun c).args.k c.before.fill_corners.new.totals
corners-found c q of = (c.before.fill_corners.ensures q (totals (passed c.before) q of)).1 (c.if-not-fill_corners.false)

returns-3 : tie.Need-returns
returns-3 c =
    let at = passed c.before in
    let one = (begun c).requires.1.0 in
    record {
      number = λ q of. answer_none q _ (totals at q of).pass (yes-eight c q of);
      sizes = λ q of z. totals at q of;
      corners = λ q of z. corners-found c q of;
      ready = λ z. ready one.0 (begun c).args.k _ _ _ (some at) (yes-eight c one.0 one.1) (corners-found c one.0 one.1);
    }

pub totals_answer_spec : {M : Type 1} → statement M
totals_answer_spec =
    tie.close
    (tie.spec
    add-totals-pass
    totals-pass-requires
    returns
    fill-corners-requires
    returns-2
    returns-3)
