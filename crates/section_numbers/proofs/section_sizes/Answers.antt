-- One size more (total_next), each at most 10^16. Assumes nothing.
use Rattle.std.proofs.Common.{ℕ, List, ℤ, ◌≡◌, ◌+◌, ◌*◌, ◌≤◌, ◌∙◌, refl, ap₂, nat_abs, arith, rules}
use Rattle.std.proofs.lemmas.List.{get_or-take, get_or-drop}
use Rattle.rules.specs.Lists.{total, up_to}
use Rattle.laws.proofs.Totals.{total_each}
use Rattle.signed_sums.specs.Small.{most_figure}
use Rattle.vectors.specs.Vectors.{figure_at}
use Rattle.section_numbers.specs.Numbers.{Spans, sizes_of}
use Rattle.section_numbers.proofs.Totals.{total_next}
use Rattle.section_numbers.proofs.section_sizes.Goals as goal
use Rattle.section_numbers.proofs.section_sizes.Goals.{After-size_of-sum}

-- the size of figure i
abbrev one : List ℤ → ℕ → ℕ → ℕ
one xs start i = nat_abs (figure_at xs (start + i))

pub loop-x-init : goal.loop-x-init
unfolding total up_to
loop-x-init c = refl

-- one size more
next : (c : After-size_of-sum) → c.loop-x.sum + c.size_of-sum.result ≡ total (up_to (one c.args.figures.now c.args.start) (c.loop-x.x-index + 1))
next c =
    let here : c.size_of-sum.result ≡ one c.args.figures.now c.args.start c.loop-x.x-index = search (rules, get_or-take, get_or-drop) in
    ap₂ ◌+◌ c.loop-x.invariant here ∙ total_next (one c.args.figures.now c.args.start) c.loop-x.x-index

-- the sum of i of them
most : {start n : ℕ} {xs : List ℤ} → Spans start n xs → (i : ℕ) → i ≤ n → total (up_to (one xs start) i) ≤ i * most_figure
most {start} {n} {xs} h i l = total_each (one xs start) most_figure i (λ j m. h.small j (omega arith))

pub overflow_add-sum : goal.overflow_add-sum
overflow_add-sum c =
    omega (arith, next (goal.at.overflow_add-sum c).After-size_of-sum, most c.requires (c.loop-x.x-index + 1) (search rules), c.requires.few)

pub loop-x-preserved : goal.loop-x-preserved
loop-x-preserved c = next (goal.at.loop-x-preserved c).After-size_of-sum

pub returns : goal.returns
unfolding sizes_of
returns c =
    let e : c.loop-x.x-index ≡ c.args.n = search rules in
    let is = rw e at c.loop-x.invariant in
    (is, rw is (most c.requires c.args.n (omega arith)))
