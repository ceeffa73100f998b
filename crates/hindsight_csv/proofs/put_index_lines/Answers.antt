-- One index more (put_more). Assumes nothing.
use Rattle.std.proofs.Common.{◌≡◌, get_or, take, rules}
use Rattle.std.proofs.lemmas.List.{get_or-take}
use Rattle.composing.proofs.Puts.{put_first, put_more}
use Rattle.hindsight_csv.specs.Csv.{index_line}
use Rattle.hindsight_csv.proofs.put_index_lines.Goals as goal

pub loop-a-init : goal.loop-a-init
loop-a-init c = put_first _ _ _

pub loop-a-preserved : goal.loop-a-preserved
unfolding index_line
loop-a-preserved c =
    let here : get_or (take c.args.n c.args.settings.now) c.loop-a.a 0 ≡ get_or c.args.settings.now c.loop-a.a 0 = search (rules, get_or-take) in
    put_more (index_line c.args.settings.now) c.loop-a.a c.loop-a.invariant (rw here at c.put_number_line-end.ensures)

pub returns : goal.returns
returns c =
    let e : c.loop-a.a ≡ c.args.n = search rules in
    rw e at c.loop-a.invariant
