-- The reader's answer, and the sheet of the list that it filled (read_sheet_lem). Assumes nothing.
use mathlib.Core.Path.{refl, ◌≡◌, sym, ◌∙◌}
use native.Mathlib.Omega.{arith}
use lib.IntN.{pos}
use lib.ListN.{replicate}
use borrow.Author.Tests.{eq-eqb}
use Rattle.rules.specs.Record.{most_fields}
use Rattle.rules.specs.Packing.{Fit}
use Rattle.rules.specs.Reading.{read_answer_of}
use Rattle.composing.proofs.Puts.{put_same}
use Rattle.sheet_writing.proofs.Unpacked.{read_years, read_sheet_lem}
use Rattle.sheet_writing.proofs.unpack.Goals as goal

pub put_sheet-requires : goal.put_sheet-requires
put_sheet-requires c =
    let s = c.args.packed.now in
    let small : Fit 8 s = λ i. omega (arith, c.type_inv.packed i) in
    let read = c.doonamurk_read-answer.ensures in
    let yes : c.doonamurk_read-answer.result ≡ 0 = omega arith in
    rw read.1 (read_years s small (sym read.0 ∙ yes) (replicate most_fields (pos 0)) refl)

pub returns : goal.returns
returns c =
    let s = c.args.packed.now in
    let small : Fit 8 s = λ i. omega (arith, c.type_inv.packed i) in
    let read = c.doonamurk_read-answer.ensures in
    let yes : c.doonamurk_read-answer.result ≡ 0 = omega arith in
    let text = read_sheet_lem s small (sym read.0 ∙ yes) (replicate most_fields (pos 0)) refl in
    (sym (eq-eqb (read_answer_of s most_fields) 0 (sym read.0 ∙ yes)), (sym yes ∙ read.0, put_same text (rw read.1 at c.put_sheet.ensures)))
