-- A cumulative more, and the first that is above the most (leading_stop, leading_all). Assumes nothing.
use Rattle.std.proofs.Common.{ℕ, suc, List, ◌≡◌, ◌+◌, ◌-◌, ◌*◌, ◌/◌, ◌≤◌, ◌<◌, refl, sym, take, drop, get_or, arith, rules}
use Rattle.std.proofs.lemmas.List.{get_or-take, get_or-drop}
use native.Mathlib.Nat.{mul-le-mul}
use native.Mathlib.Numerals.{add-one}
use borrow.Author.Tests.{le-leb, lt-leb}
use Rattle.rules.specs.Lists.{up_to, every}
use Rattle.rules.specs.Record.{million}
use Rattle.rules.specs.Triangle.{most_cumulative}
use Rattle.rules.specs.Ladder.{completed}
use Rattle.laws.proofs.Lists.{every_next}
use Rattle.entries.proofs.Leading.{leading_all, leading_stop}
use Rattle.ladder_findings.specs.LadderFindings.{years_within, Walked}
use Rattle.ladder_findings.proofs.Within.{cell_passes}
use Rattle.ladder_findings.proofs.walk_row.Goals as goal
use Rattle.ladder_findings.proofs.walk_row.Goals.{In-loop-t}

-- the factor of turn t
here : (c : In-loop-t)
    → get_or (take (c.args.k - (c.args.k - c.args.i)) (drop (c.args.k - c.args.i) c.args.factors.now)) c.loop-t.t 0
    ≡ get_or c.args.factors.now (c.args.k - c.args.i + c.loop-t.t) 0
here c = search (rules, get_or-take, get_or-drop)

pub loop-t-init : goal.loop-t-init
unfolding completed up_to every
loop-t-init c = (refl, (c.requires.0.paid c.args.i, refl))

pub overflow_mul-next : goal.overflow_mul-next
overflow_mul-next c =
    rw (here (goal.at.overflow_mul-next c).In-loop-t) (omega (arith, mul-le-mul c.loop-t.invariant.1.0 (c.requires.0.factors (c.args.k - c.args.i + c.loop-t.t))))

-- what the code makes of the last cumulative is the next one
next : (c : In-loop-t)
    → c.loop-t.last * get_or (take (c.args.k - (c.args.k - c.args.i)) (drop (c.args.k - c.args.i) c.args.factors.now)) c.loop-t.t 0 / million
    ≡ completed c.args.k c.args.paid.now c.args.factors.now c.args.i (suc c.loop-t.t)
unfolding completed
next c = rw (here c, c.loop-t.invariant.0)

-- the years t and the cumulative x after them
walked : (k : ℕ) (c m : List ℕ) (i t x : ℕ) → years_within k c m i ≡ t → x ≡ completed k c m i t → x ≤ most_cumulative → Walked k c m i (record { years = t; last = x })
walked k c m i t x et ex l = record { years = sym et; last = rw et ex; most = l }

-- how many turns there are
turns : (c : In-loop-t) → c.loop-t.t < c.args.i
turns c = search rules

pub returns-then-next-gt-MOST_CUMULATIVE : goal.returns-then-next-gt-MOST_CUMULATIVE
unfolding years_within
returns-then-next-gt-MOST_CUMULATIVE c =
    let t = (goal.at.returns-then-next-gt-MOST_CUMULATIVE c).In-loop-t in
    let passes = cell_passes c.args.k c.args.paid.now c.args.factors.now c.args.i in
    let failed = lt-leb (completed c.args.k c.args.paid.now c.args.factors.now c.args.i (suc c.loop-t.t)) most_cumulative (omega (arith, next t, c.if-next-gt-MOST_CUMULATIVE.true)) in
    walked
    c.args.k
    c.args.paid.now
    c.args.factors.now
    c.args.i
    c.loop-t.t
    c.loop-t.last
    (leading_stop passes c.args.i c.loop-t.t (turns t) c.loop-t.invariant.1.1 failed)
    c.loop-t.invariant.0
    c.loop-t.invariant.1.0

pub loop-t-preserved : goal.loop-t-preserved
loop-t-preserved c =
    let t = (goal.at.loop-t-preserved c).In-loop-t in
    let passes = cell_passes c.args.k c.args.paid.now c.args.factors.now c.args.i in
    let passed = le-leb (completed c.args.k c.args.paid.now c.args.factors.now c.args.i (suc c.loop-t.t)) most_cumulative (omega (arith, next t, c.if-next-gt-MOST_CUMULATIVE.false)) in
    (rw (add-one c.loop-t.t) (next t), (omega (arith, next t, c.if-next-gt-MOST_CUMULATIVE.false), every_next passes (λ t. t) c.loop-t.t c.loop-t.invariant.1.1 passed))

pub returns : goal.returns
unfolding years_within
returns c =
    let passes = cell_passes c.args.k c.args.paid.now c.args.factors.now c.args.i in
    let e : c.loop-t.t ≡ c.args.i = search rules in
    walked
    c.args.k
    c.args.paid.now
    c.args.factors.now
    c.args.i
    c.args.i
    c.loop-t.last
    (leading_all passes c.args.i (rw e at c.loop-t.invariant.1.1))
    (rw e at c.loop-t.invariant.0)
    c.loop-t.invariant.1.0
