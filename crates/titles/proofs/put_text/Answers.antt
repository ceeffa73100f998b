-- One byte more (put_text_more), and the whole text. Assumes nothing.
use mathlib.Core.Path.{◌≡◌}
use native.Mathlib.Omega.{arith}
use lib.ListN.{length}
use lib.Seq.{take-length}
use Rattle.titles.proofs.Titles.{put_text_first, put_text_more}
use Rattle.titles.proofs.put_text.Goals as goal

pub loop-b-init : goal.loop-b-init
loop-b-init c = put_text_first _ _ _ c.args.text.now

pub loop-b-preserved : goal.loop-b-preserved
loop-b-preserved c = put_text_more c.args.html c.args.text.now c.loop-b.b-index (omega arith) c.loop-b.invariant c.put_sign-end.ensures

pub returns : goal.returns
returns c =
    let text = c.args.text.now in
    let e : c.loop-b.b-index ≡ length text = omega arith in
    rw (e, take-length text) at c.loop-b.invariant
