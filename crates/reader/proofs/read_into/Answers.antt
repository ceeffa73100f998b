-- On an answer of 0 the arrays hold the record's figures (figures_filled), whose fields are the record's (fields_put). Assumes nothing.
use native.Mathlib.Omega.{arith}
use mathlib.Core.Path.{◌≡◌, sym, ap, ◌∙◌}
use mathlib.Core.List.{List}
use Prim.Native.Nat.{ℕ, ◌≤◌, ◌<◌, ◌^◌}
use lib.Dec.{lit<}
use lib.ListN.{get_or}
use Rattle.rules.specs.Packing.{Fit}
use Rattle.rules.specs.Questions.{after_call}
use Rattle.rules.specs.Record.{million, most_index, most_amount, cells, last_year_of}
use Rattle.layout.proofs.RecordSizes.{fields_count}
use Rattle.reader.specs.Fields.{Signable}
use Rattle.opening.proofs.Opened.{whole_record, opening_yes, years_known_lem}
use Rattle.reader.proofs.FieldsPut.{fields_put}
use Rattle.reading.proofs.FiguresRead.{figures_filled, sound_figures}
use Rattle.reader.proofs.read_into.Goals as goal

-- numbers up to a limit stand in a signed list
signable : {xs ys : List ℕ} (most : ℕ) → xs ≡ ys → ((i : ℕ) → get_or ys i 0 ≤ most) → most < 2 ^ 63 → Signable xs
signable most e h l i = rw e (omega (arith, h i))

pub last_year_of-k-requires : goal.last_year_of-k-requires
last_year_of-k-requires c = (years_known_lem c.args.packed.now (opening_yes c.args.packed.now c.requires.0).0).0

pub put_triangle-at-requires : goal.put_triangle-at-requires
put_triangle-at-requires c =
    let s = c.args.packed.now in
    let small : Fit 8 s = λ i. omega (arith, c.type_inv.packed i) in
    let read = c.read-opened.ensures in
    let yes : c.read-opened.result.answer ≡ 0 = omega arith in
    let f = figures_filled s small c.requires.0 (sym read.0 ∙ yes) in
    let sound = sound_figures s small c.requires.0 (sym read.0 ∙ yes) in
    let year = c.last_year_of-k.ensures in
    (year.1, (signable million (read.1.1.0 ∙ f.exposures) sound.exposures_most (lit< tt), omega (arith, c.requires.1, fields_count (last_year_of s), ap cells year.0)))

pub put_assumptions-requires : goal.put_assumptions-requires
put_assumptions-requires c =
    let s = c.args.packed.now in
    let small : Fit 8 s = λ i. omega (arith, c.type_inv.packed i) in
    let read = c.read-opened.ensures in
    let yes : c.read-opened.result.answer ≡ 0 = omega arith in
    let f = figures_filled s small c.requires.0 (sym read.0 ∙ yes) in
    let sound = sound_figures s small c.requires.0 (sym read.0 ∙ yes) in
    let year = c.last_year_of-k.ensures in (
      year.1,
      (
        signable most_index (read.1.1.1.1.0 ∙ f.indices) sound.indices (lit< tt),
        (
          signable million (read.1.1.1.1.1.0 ∙ f.reporting) sound.reporting (lit< tt),
          (
            omega (arith, read.1.0 ∙ f.weight, sound.weight),
            (
              signable most_amount (read.1.1.1.1.1.1.0 ∙ f.ulae) sound.ulae (lit< tt),
              (
                omega (arith, read.1.1.1.1.1.1.1 ∙ f.tail, sound.tail),
                omega (arith, c.put_triangle-at.ensures.0, c.requires.1, fields_count (last_year_of s), ap cells year.0),
              ),
            ),
          ),
        ),
      ),
    )

pub returns : goal.returns
unfolding after_call
returns c =
    let s = c.args.packed.now in
    let small : Fit 8 s = λ i. omega (arith, c.type_inv.packed i) in
    let read = c.read-opened.ensures in
    let yes : c.read-opened.result.answer ≡ 0 = omega arith in
    let accepted = sym read.0 ∙ yes in
    let f = figures_filled s small c.requires.0 accepted in
    let put =
    fields_put s (whole_record s small c.requires.0) c.args.list.now c.last_year_of-k.ensures.0
    (read.1.1.0 ∙ f.exposures) (read.1.1.1.0 ∙ f.increments) (read.1.1.1.1.0 ∙ f.indices) (read.1.1.1.1.1.0 ∙ f.reporting)
    (read.1.0 ∙ f.weight) (read.1.1.1.1.1.1.0 ∙ f.ulae) (read.1.1.1.1.1.1.1 ∙ f.tail) c.put_triangle-at.ensures.0 in
    (sym accepted, rw (accepted, c.put_assumptions.ensures, c.put_triangle-at.ensures.1) put)
