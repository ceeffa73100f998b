-- The line of inflation first, and then the lines as due. Assumes nothing.
use mathlib.Core.Path.{◌≡◌, ap, ◌∙◌}
use mathlib.Core.List.{List}
use Prim.Native.Nat.{ℕ}
use Rattle.composing.proofs.Puts.{put_same}
use Rattle.sheet.specs.Sheet.{lines, fault_asked, fault_of}
use Rattle.inflation_wording.specs.FaultWords.{fault_line}
use Rattle.text_packing.proofs.Packing.{faulty, faultless}
use Rattle.text_packing.proofs.pack_text.Goals as goal
use Rattle.text_packing.proofs.pack_text.Goals.{After-fault_asked-fault}

-- what was asked
asked : (c : After-fault_asked-fault) → c.fault_asked-fault.result ≡ fault_of c.args.text.now
asked c = c.fault_asked-fault.ensures ∙ ap (λ (t : List ℕ). fault_asked (lines t)) c.without_mark-rest.ensures

pub returns-then-fault-ne0 : goal.returns-then-fault-ne0
returns-then-fault-ne0 c =
    let f = c.fault_asked-fault.result in
    let w = faulty c.args.text.now f (asked (goal.at.returns-then-fault-ne0 c).After-fault_asked-fault) c.if-fault-ne0.true c.args.packed.now in
    (w.0, (w.1.0, (w.1.1.0, put_same (ap (λ (t : List ℕ). fault_line (lines t) f) c.without_mark-rest.ensures ∙ w.1.1.1) c.put_fault.ensures)))

pub returns : goal.returns
returns c =
    let p = c.pack_sheet.ensures in
    let w = faultless c.args.text.now _ (asked (goal.at.returns c).After-fault_asked-fault) c.if-fault-ne0.false c.args.packed.now in
    (p.0 ∙ w.0, (p.1.0 ∙ w.1.0, (p.1.1.0 ∙ w.1.1.0, put_same w.1.1.1 p.1.1.1)))
