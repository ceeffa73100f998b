-- One exposure more (filled_more). Assumes nothing.
use Rattle.std.proofs.Common.{ℕ, ◌≡◌, ◌+◌, get_or, pos, nat_abs, arith, rules}
use Rattle.std.proofs.lemmas.List.{get_or-take, get_or-drop}
use Rattle.rules.specs.History.{most_history}
use Rattle.laws.proofs.Padded.{filled_none, filled_more}
use Rattle.history_parts.specs.Parts.{exposures_after}
use Rattle.history_parts.proofs.exposures_of.Goals as goal

pub loop-i-init : goal.loop-i-init
loop-i-init c = filled_none most_history 0 _

pub loop-i-preserved : goal.loop-i-preserved
loop-i-preserved c =
    let f : ℕ → ℕ = λ j. nat_abs (get_or c.args.list.now (2 + j) (pos 0)) in
    let here : c.size_of.result ≡ f c.loop-i.i = search (rules, get_or-take, get_or-drop) in
    rw (here, c.loop-i.invariant) (filled_more most_history 0 f c.loop-i.i (omega (arith, c.requires.1)))

pub returns : goal.returns
unfolding exposures_after
returns c =
    let e : c.loop-i.i ≡ c.args.years = search rules in
    rw e at c.loop-i.invariant
