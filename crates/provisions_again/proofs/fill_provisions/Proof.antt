-- Each stage is given the figures' own arrays and leaves them (Provisions). Assumes nothing.
use borrow.Author.Rules.{rules}
use native.Mathlib.Omega.{arith}
use mathlib.Core.Path.{◌≡◌, refl, ap}
use Rattle.rules.specs.Packing.{Fit}
use Rattle.rules.specs.Record.{Figures, figures_of}
use Rattle.rules.specs.Results.{square_of, factors_in, levels_in}
use Rattle.rules.specs.declared.Factors.{Factors}
use Rattle.totals.specs.Summed.{Summed}
use Rattle.reading.specs.Reading.{Sound}
use Rattle.reading.proofs.FiguresRead.{sound_figures}
use Rattle.opening.proofs.Opened.{years_known_lem, opening_yes}
use Rattle.reserving.specs.Stages.{Tailed}
use Rattle.provisions_again.specs.Provided.{Carried}
use Rattle.provisions_again.proofs.Provisions.{summed, tail_ready, tails_found, factors_found, levels_ready, levels_found, provisions_ready, provisions_found}
use Rattle.provisions_again.proofs.fill_provisions.Statement.{statement}
use Rattle.provisions_again.proofs.fill_provisions.Tie as tie

abbrev start : tie.After-read_tail-amount → tie.Start
start c = c.before.before.before.before

abbrev F : tie.After-read_tail-amount → Figures
F c = figures_of (start c).args.packed.now

passed : (c : tie.After-read_tail-amount) → Carried (start c).args.packed.now
passed c = (start c).requires.0

bytes : (c : tie.After-read_tail-amount) → Fit 8 (start c).args.packed.now
bytes c i = omega (arith, c.before.before.before.shared_slice_known-1.given i)

good : (c : tie.After-read_tail-amount) → Sound (F c)
good c = sound_figures (start c).args.packed.now (bytes c) (passed c).opening (passed c).fields

read-tail-requires : tie.Need-read_tail-amount-requires
read-tail-requires c κs =
    let s = c.before.before.before in
    (s.requires.0.opening, (s.requires.0.fields, (refl, refl)))

last-year-of-requires : tie.Need-last_year_of-k-requires
last-year-of-requires c κs = let s = (start c).args.packed.now in (years_known_lem s (opening_yes s (passed c).opening).0).0

last-year : (c : tie.After-last_year_of-k) → c.last_year_of-k.result ≡ (F c.before).k
unfolding figures_of
last-year c = c.last_year_of-k.ensures.0

-- the totals, and the factors
totals : (c : tie.After-last_year_of-k) →
    let s = start c.before in
    Summed (square_of (F c.before)) c.last_year_of-k.result s.args.columns.now s.args.diagonals.now
totals c = let at = c.before in summed (F at) (good at) _ _ _ (last-year c) (start at).requires.1.1.0

separate-totals-requires : tie.Need-separate_totals-requires
separate-totals-requires c κs = (c.last_year_of-k.ensures.1, (square_of (F c.before), totals c))

factors : (c : tie.After-separate_totals) → c.separate_totals.result.factors ≡ factors_in (F c.before.before)
factors c =
    let year = c.before in
    let at = year.before in
    factors_found (F at) _ _ (last-year year) (c.separate_totals.ensures (square_of (F at)) (totals year)).1 (passed at).separation

-- the tail payments
abbrev years : tie.After-tails-1 → tie.After-last_year_of-k
years c = c.before.before.before.before.before

carry-tail-requires : tie.Need-carry_tail-requires
carry-tail-requires c κs =
    let year = years c in
    let at = year.before in
    let read = at.read_tail-amount.ensures in
    tail_ready (F at) (good at) _ _ _ _ (last-year year) read.0 read.1.0 read.1.1

tailed : (c : tie.After-carry_tail) → Tailed (F (years c.before).before) c.carry_tail.new.tails
tailed c =
    let year = years c.before in
    let at = year.before in
    let read = at.read_tail-amount.ensures in
    tails_found (F at) (good at) (passed at).tail _ _ _ _ _ (last-year year) read.0 read.1.0 read.1.1 c.carry_tail.ensures.1

-- the future levels
abbrev carried : tie.After-levels-1 → tie.After-carry_tail
carried c = c.before.before.before

abbrev parted : tie.After-levels-1 → tie.After-separate_totals
parted c = (carried c).before.before.before.before.before

fill-levels-requires : tie.Need-fill_levels-requires
fill-levels-requires c κs =
    let split = parted c in
    let year = split.before in
    let at = year.before in
    let l = ap (λ (g : Factors). g.levels) (factors split) in
    levels_ready (F at) (good at) (passed at).cumulatives (passed at).development (passed at).separation _ _ _ (last-year year) l at.read_tail-amount.ensures.1.1

levels : (c : tie.After-fill_levels) → c.fill_levels.new.levels ≡ levels_in (F (parted c.before).before.before)
levels c =
    let split = parted c.before in
    let year = split.before in
    let at = year.before in
    let l = ap (λ (g : Factors). g.levels) (factors split) in
    levels_found (F at) (good at) (passed at).cumulatives (passed at).development (passed at).separation _ _ _ (last-year year) l at.read_tail-amount.ensures.1.1 _ c.fill_levels.ensures

-- the provisions
abbrev filled : tie.After-complete-arg-2-1 → tie.After-fill_levels
filled c = c.before.before.before.before.before.before

complete-requires : tie.Need-complete-requires
complete-requires c κs =
    let fill = filled c in
    let split = parted fill.before in
    let year = split.before in
    let at = year.before in
    let r = ap (λ (g : Factors). g.shares) (factors split) in
    provisions_ready (F at) (good at) (passed at).cumulatives (passed at).development (passed at).separation _ _ _ _ _ _ (last-year year) at.read_tail-amount.ensures.1.0 r (levels fill)
    (tailed (carried fill.before)) (start at).requires.1.0

returns : tie.Need-returns
returns c =
    let fill = filled c.before in
    let split = parted fill.before in
    let year = split.before in
    let at = year.before in
    let r = ap (λ (g : Factors). g.shares) (factors split) in
    provisions_found (F at) (good at) (passed at).cumulatives (passed at).development (passed at).separation _ _ _ _ _ _ (last-year year) at.read_tail-amount.ensures.1.0 r (levels fill)
    (tailed (carried fill.before)) (start at).requires.1.0 _ _ (start at).requires.1.1.1 c.complete.ensures.1.1

pub fill_provisions_spec : {M : Type 1} → statement M
fill_provisions_spec =
    tie.close
    (tie.spec
    read-tail-requires
    last-year-of-requires
    separate-totals-requires
    carry-tail-requires
    (λ c. search rules)
    (λ c. search rules)
    fill-levels-requires
    complete-requires
    returns)
