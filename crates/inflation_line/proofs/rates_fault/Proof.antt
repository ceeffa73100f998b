-- By the number that the questions answer. Assumes nothing.
use mathlib.Core.Path.{◌≡◌, refl, sym, ap, ◌∙◌}
use mathlib.Core.List.{List}
use Prim.Native.Nat.{ℕ}
use native.Mathlib.Numerals.{add-one}
use native.Mathlib.Omega.{arith}
use Rattle.rules.specs.declared.Indices.{Indices}
use Rattle.rules.specs.declared.Inflation.{Inflation}
use Rattle.rules.specs.Inflation.{inflation_answer}
use Rattle.inflation.specs.Walk.{years_within}
use Rattle.inflation_line.specs.InflationLine.{shape_at, shape_of}
use Rattle.inflation_line.proofs.Lines.{fault_rate, fault_year, fault_none, within_most, years_few, answer_of_lem}
use borrow.Author.Rules.{rules}
use Rattle.inflation_line.proofs.rates_fault.Statement.{statement}
use Rattle.inflation_line.proofs.rates_fault.Tie as tie

-- the line, the years, and the number that was answered of its rates
abbrev line : tie.After-inflation_indices-made → List ℕ
line i = i.before.before.before.args.line.now

abbrev years : tie.After-inflation_indices-made → ℕ
years i = i.before.before.before.args.years

number : (i : tie.After-inflation_indices-made) → inflation_answer i.before.shape_of.result (years i) ≡ i.inflation_indices-made.result.refused
number i = sym (ap (λ (r : Indices). r.refused) i.inflation_indices-made.ensures ∙ answer_of_lem _ _)

shape : (i : tie.After-inflation_indices-made) → i.before.shape_of.result ≡ shape_of (line i)
shape i = i.before.shape_of.ensures

returns : tie.Need-returns-then-made-eq20
returns c =
    let i = c.before.before.before.before in
    let p = c.before.shape_at in
    fault_rate (years i) (line i) _ (shape i) (number i ∙ c.before.before.if-made-eq20.true) c.passing_numbers-good.result
    (c.passing_numbers-good.ensures.0 ∙ rw (p.ensures.0, add-one (shape_at (line i))))

-- where question 21 says no
late : (v : tie.After-values-1) → inflation_answer v.before.before.before.before.before.before.before.shape_of.result (years v.before.before.before.before.before.before) ≡ 21
late v = number v.before.before.before.before.before.before ∙ v.before.before.if-made-eq21.true

walk-requires : tie.Need-walk-within-requires
walk-requires c κs = (years_few _ _ (late c), refl)

add-t15 : tie.Need-overflow_add-result-then-made-eq21
add-t15 c = omega (arith, c.walk-within.ensures.0, within_most c.before.before.shape_of-then-made-eq21.result (years c.before.before.before.before.before.before.before), years_few _ _ (late c.before))

returns-2 : tie.Need-returns-then-made-eq21
returns-2 c =
    let i = c.before.before.before.before.before.before.before in
    fault_year (years i) (line i) _ (shape i) (late c.before) c.walk-within.result
    (c.walk-within.ensures.0 ∙ ap (λ (s : Inflation). years_within s (years i)) (c.before.before.shape_of-then-made-eq21.ensures ∙ sym (shape i)))

returns-3 : tie.Need-returns
returns-3 c =
    let i = c.before.before.before.before in
    fault_none (years i) (line i) _ (shape i) (λ e. c.before.before.if-made-eq20.false (sym (number i) ∙ e)) (λ e. c.if-made-eq21.false (sym (number i) ∙ e))

pub rates_fault_spec : {M : Type 1} → statement M
rates_fault_spec =
    tie.close
    (tie.spec
    (λ c κs. search rules)
    (λ c κs. search rules)
    (λ c κs. search rules)
    (λ c. search rules)
    (λ c κs. search rules)
    (λ c. search rules)
    returns
    (λ c κs. search rules)
    walk-requires
    add-t15
    returns-2
    returns-3)
