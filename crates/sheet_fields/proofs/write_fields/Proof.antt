-- The writer is given each row, and the front of the buffer. Assumes nothing.
use mathlib.Core.Path.{◌≡◌, sym, ap₂, ◌∙◌}
use native.Mathlib.Omega.{arith}
use lib.ListN.{length, take}
use lib.Seq.{length-take-le}
use Rattle.rules.specs.Record.{byte_count}
use Rattle.rules.specs.Writing.{write_answer}
use Rattle.sheet_fields.proofs.FieldSections.{exposures_fit, exposures_cut, indices_fit, indices_cut, reporting_fit, reporting_cut, ulae_fit, ulae_cut, given_is, same_written}
use borrow.Author.Rules.{rules}
use Rattle.sheet_fields.proofs.write_fields.Statement.{statement}
use Rattle.sheet_fields.proofs.write_fields.Tie as tie

-- the rows, and where the function starts
abbrev rows : tie.After-bytes_of-m → tie.After-rows_of-rows
rows b = b.before.before.before.before.before.before

abbrev start : tie.After-bytes_of-m → tie.Start
start b = (rows b).before.before

array-share-prefix-exposures : tie.Need-slice_bounds-exposures-end
array-share-prefix-exposures c =
    let b = c in
    let s = start b in
    let r = (rows b).rows_of-rows in
    exposures_fit s.args.k s.args.list.now s.requires.0 s.requires.1.0 r.result r.ensures

slice-aggregate-doonamurk-write : tie.Need-slice_bounds-doonamurk_write-end
slice-aggregate-doonamurk-write c =
    let b = c.before in
    let s = start b in
    let r = (rows b).rows_of-rows in
    exposures_cut s.args.k s.args.list.now s.requires.0 s.requires.1.0 r.result r.ensures

array-share-prefix-indices : tie.Need-slice_bounds-indices-end
array-share-prefix-indices c =
    let b = c.before.before in
    let s = start b in
    let r = (rows b).rows_of-rows in
    indices_fit s.args.k s.args.list.now s.requires.0 s.requires.1.0 r.result r.ensures

slice-aggregate-doonamurk-write-2 : tie.Need-slice_bounds-doonamurk_write-end-3
slice-aggregate-doonamurk-write-2 c =
    let b = c.before.before.before in
    let s = start b in
    let r = (rows b).rows_of-rows in
    indices_cut s.args.k s.args.list.now s.requires.0 s.requires.1.0 r.result r.ensures

array-share-prefix-reporting : tie.Need-slice_bounds-reporting-end
array-share-prefix-reporting c =
    let b = c.before.before.before in
    let s = start b in
    let r = (rows b).rows_of-rows in
    reporting_fit s.args.k s.args.list.now s.requires.0 s.requires.1.0 r.result r.ensures

slice-aggregate-doonamurk-write-3 : tie.Need-slice_bounds-doonamurk_write-end-4
slice-aggregate-doonamurk-write-3 c =
    let b = c.before.before.before.before in
    let s = start b in
    let r = (rows b).rows_of-rows in
    reporting_cut s.args.k s.args.list.now s.requires.0 s.requires.1.0 r.result r.ensures

array-share-prefix-ulae : tie.Need-slice_bounds-ulae-end
array-share-prefix-ulae c =
    let b = c.before.before.before.before in
    let s = start b in
    let r = (rows b).rows_of-rows in
    ulae_fit s.args.k s.args.list.now s.requires.0 s.requires.1.0 r.result r.ensures

slice-aggregate-doonamurk-write-4 : tie.Need-slice_bounds-doonamurk_write-end-5
slice-aggregate-doonamurk-write-4 c =
    let b = c.before.before.before.before.before in
    let s = start b in
    let r = (rows b).rows_of-rows in
    ulae_cut s.args.k s.args.list.now s.requires.0 s.requires.1.0 r.result r.ensures

slice-aggregate-doonamurk-write-5 : tie.Need-slice_bounds-doonamurk_write-end-7
slice-aggregate-doonamurk-write-5 c =
    let b = c.before.before.before.before.before.before in
    let s = start b in
    sym (length-take-le b.bytes_of-m.result s.args.buffer.now (omega arith))

returns : tie.Need-returns
returns c =
    let d = c.before.before in
    let b = d.before.before.before.before.before.before.before in
    let s = start b in
    let r = (rows b).rows_of-rows in
    let m = b.bytes_of-m.result in
    let e = given_is s.args.k s.args.list.now s.requires.0 s.requires.1.0 r.result r.ensures b.before.cells_of.result b.before.cells_of.ensures.0 in
    let long : length (take m s.args.buffer.now) ≡ m = length-take-le m s.args.buffer.now (omega arith) in (
      d.doonamurk_write.ensures.0 ∙ ap₂ write_answer e (long ∙ b.bytes_of-m.ensures.0),
      same_written _ _ m (byte_count s.args.k) s.args.buffer.now d.doonamurk_write.new.buffer e b.bytes_of-m.ensures.0 d.doonamurk_write.ensures.1,
    )

pub write_fields_spec : {M : Type 1} → statement M
write_fields_spec =
    tie.close
    (tie.spec
    (λ c κs. search rules)
    (λ c. search rules)
    (λ c. search rules)
    (λ c κs. search rules)
    (λ c. search rules)
    (λ c κs. search rules)
    array-share-prefix-exposures
    slice-aggregate-doonamurk-write
    (λ c. search rules)
    (λ c. search rules)
    (λ c. search rules)
    (λ c. search rules)
    array-share-prefix-indices
    slice-aggregate-doonamurk-write-2
    array-share-prefix-reporting
    slice-aggregate-doonamurk-write-3
    array-share-prefix-ulae
    slice-aggregate-doonamurk-write-4
    (λ c. search rules)
    slice-aggregate-doonamurk-write-5
    (λ c κs. search rules)
    (λ c. search rules)
    returns)
