-- What was found, and what the writer answers, decide what is said. Assumes nothing.
use native.Mathlib.Omega.{arith}
use mathlib.Core.Path.{◌≡◌, sym, ◌∙◌}
use lib.ListN.{length}
use Rattle.rules.specs.Record.{most_bytes}
use Rattle.composing.proofs.Puts.{put_same, put_none}
use Rattle.sheet_packing.proofs.Outcomes.{list_long, word_long, asked, wrong, wrong_has_none, few, written, refused, refused_has_none, made, made_has_one}
use borrow.Author.Rules.{rules}
use Rattle.sheet_packing.proofs.pack_sheet.Goals as goal

pub slice_bounds-put_wrong-end : goal.slice_bounds-put_wrong-end
slice_bounds-put_wrong-end c = sym (list_long c.args.text.now _ _ _ c.read_sheet-f.ensures)

pub slice_bounds-put_wrong-end-then-f-ne0 : goal.slice_bounds-put_wrong-end-then-f-ne0
slice_bounds-put_wrong-end-then-f-ne0 c = sym (word_long c.args.text.now _ _ _ c.read_sheet-f.ensures)

pub put_wrong-requires : goal.put_wrong-requires
put_wrong-requires c = asked c.args.text.now _ _ _ c.read_sheet-f.ensures

pub returns-then-f-ne0 : goal.returns-then-f-ne0
returns-then-f-ne0 c =
    let some = c.if-f-ne0.true in
    let w = wrong c.args.text.now _ _ _ c.read_sheet-f.ensures some c.args.packed.now in
    (wrong_has_none c.args.text.now _ _ _ c.read_sheet-f.ensures some, (w.0, (w.1.0, put_same w.1.1 c.put_wrong.ensures)))

pub slice_bounds-last_year-end : goal.slice_bounds-last_year-end
slice_bounds-last_year-end c = sym (list_long c.args.text.now _ _ _ c.read_sheet-f.ensures)

pub last_year-k-requires : goal.last_year-k-requires
last_year-k-requires c = (asked c.args.text.now _ _ _ c.read_sheet-f.ensures).0

pub slice_bounds-write_fields-end : goal.slice_bounds-write_fields-end
slice_bounds-write_fields-end c = sym (list_long c.args.text.now _ _ _ c.read_sheet-f.ensures)

pub write_fields-answer-requires : goal.write_fields-answer-requires
write_fields-answer-requires c =
    let text = c.args.text.now in
    let read = c.read_sheet-f.ensures in
    let long : length c.args.packed.now ≡ most_bytes = search rules in
    (few text _ _ _ read c.if-f-ne0.false _ c.last_year-k.ensures, (list_long text _ _ _ read, long))

pub returns-then-answer-ne0 : goal.returns-then-answer-ne0
returns-then-answer-ne0 c =
    let text = c.args.text.now in
    let read = c.read_sheet-f.ensures in
    let right = c.if-f-ne0.false in
    let w = c.write_fields-answer in
    let some = c.if-answer-ne0.true in
    let no = refused text _ _ _ read right _ c.last_year-k.ensures w.result w.ensures.0 some in
    let has_none = refused_has_none text _ _ _ read right _ c.last_year-k.ensures w.result w.ensures.0 some in
    (has_none, (written text _ _ _ read right _ c.last_year-k.ensures _ _ w.ensures.1, (no.0, put_same no.1 c.put_refusal.ensures)))

pub bytes_of-requires : goal.bytes_of-requires
bytes_of-requires c = few c.args.text.now _ _ _ c.read_sheet-f.ensures c.if-f-ne0.false _ c.last_year-k.ensures

pub returns : goal.returns
returns c =
    let text = c.args.text.now in
    let read = c.read_sheet-f.ensures in
    let right = c.if-f-ne0.false in
    let w = c.write_fields-answer in
    let yes : w.result ≡ 0 = omega arith in
    let done = made text _ _ _ read right _ c.last_year-k.ensures w.result w.ensures.0 yes in
    let has_one = made_has_one text _ _ _ read right _ c.last_year-k.ensures w.result w.ensures.0 yes in
    (has_one, (written text _ _ _ read right _ c.last_year-k.ensures _ _ w.ensures.1, (c.bytes_of.ensures.0 ∙ done.0, put_same done.1 (put_none _ 0))))
