-- By what the line is (other_line, wrong_line, right_line). Assumes nothing.
use native.Mathlib.Omega.{arith}
use mathlib.Core.Path.{◌≡◌, sym, ap, ◌∙◌}
use mathlib.Core.Bool.{true}
use Prim.Native.Nat.{ℕ, ◌+◌}
use Rattle.rules.specs.Record.{last_year_of}
use Rattle.opening.proofs.Opened.{years_known_lem, opening_yes}
use Rattle.inflation_line.specs.InflationLine.{is_inflation, fault_in}
use Rattle.inflation_line.specs.declared.Fault.{Fault}
use Rattle.inflation_line.proofs.Lines.{fault_accepted}
use Rattle.rates_shown.proofs.Shown.{other_line, wrong_line, right_line}
use borrow.Author.Rules.{rules}
use Rattle.rates_shown.proofs.makes_indices.Statement.{statement}
use Rattle.rates_shown.proofs.makes_indices.Tie as tie

returns : tie.Need-returns-then-not-is_inflation
returns c = other_line _ _ (sym c.before.is_inflation.ensures ∙ c.if-not-is_inflation.true)

last-year-of-requires : tie.Need-last_year_of-years-requires
last-year-of-requires c κs =
    let s = c.before.before.before.before in
    (years_known_lem s.args.packed.now (opening_yes s.args.packed.now s.requires.0).0).0

-- a line of inflation, and how many years there are
abbrev start : tie.After-last_year_of-years → tie.Start
start k = k.before.before.before.before.before

labelled : (k : tie.After-last_year_of-years) → is_inflation (start k).args.line.now ≡ true
labelled k = sym k.before.before.is_inflation.ensures ∙ k.before.if-not-is_inflation.false

years-are : (k : tie.After-last_year_of-years) → k.last_year_of-years.result + 1 ≡ last_year_of (start k).args.packed.now + 1
years-are k = ap (λ (z : ℕ). z + 1) k.last_year_of-years.ensures.0

-- what is wrong with it
fault-is : (f : tie.After-fault_in-wrong) → f.fault_in-wrong.result.kind ≡ (fault_in (last_year_of (start f.before).args.packed.now + 1) (start f.before).args.line.now).kind
fault-is f =
    ap (λ (r : Fault). r.kind) f.fault_in-wrong.ensures
    ∙ ap (λ (z : ℕ). (fault_in z (start f.before).args.line.now).kind) (years-are f.before)

returns-2 : tie.Need-returns-then-wrong-ne0
returns-2 c =
    let f = c.before.before in
    wrong_line _ _ (labelled f.before) (λ e. c.if-wrong-ne0.true (fault-is f ∙ e))

-- nothing
none : (e : tie.Else-wrong-ne0) → (fault_in (last_year_of (start e.before.before.before).args.packed.now + 1) (start e.before.before.before).args.line.now).kind ≡ 0
none e = sym (fault-is e.before.before) ∙ e.if-wrong-ne0.false

makes-requires : tie.Need-makes-requires
makes-requires c κs =
    let e = c.before.before.before in
    let k = e.before.before.before in
    (omega (arith, k.last_year_of-years.ensures.1), rw (c.before.shape_of.ensures, years-are k) (fault_accepted _ _ (none e)))

returns-3 : tie.Need-returns
returns-3 c =
    let e = c.before.before.before.before in
    let k = e.before.before.before in
    c.makes.ensures
    ∙ rw (c.before.before.shape_of.ensures, c.before.before.before.indices_of-indices.ensures, years-are k) (right_line _ _ (labelled k) (none e))

pub makes_indices_spec : {M : Type 1} → statement M
makes_indices_spec =
    tie.close
    (tie.spec
    (λ c κs. search rules)
    returns
    last-year-of-requires
    (λ c. search rules)
    (λ c κs. search rules)
    returns-2
    (λ c κs. search rules)
    (λ c κs. search rules)
    makes-requires
    returns-3)
