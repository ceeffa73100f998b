-- The number of a refusal (read_refused), or the front of the list that the reader filled (read_accepted). Assumes nothing.
use borrow.Author.Rules.{rules}
use native.Mathlib.Omega.{arith}
use mathlib.Core.Path.{◌≡◌, sym, ap, ◌∙◌}
use Rattle.composing.proofs.Puts.{put_same}
use Rattle.rules.specs.Packing.{Fit}
use Rattle.rules.specs.Record.{most_fields, field_count}
use Rattle.rules.specs.Reading.{read_answer_of}
use Rattle.list_runs.proofs.Texts.{read_refused, read_some, read_accepted}
use Rattle.list_runs.proofs.put_fields.Statement.{statement}
use Rattle.list_runs.proofs.put_fields.Tie as tie

abbrev start : tie.After-doonamurk_read-number → tie.Start
start c = c.before.before.before.before

bytes : (c : tie.After-doonamurk_read-number) → Fit 8 (start c).args.packed.now
bytes c i = omega (arith, c.before.before.shared_slice_known-1.given i)

returns : tie.Need-returns-then-number-ne-ACCEPTED
returns c =
    let no = c.before.before.before.before in
    let run = no.before.before in
    put_same (read_refused (start run).args.packed.now run.doonamurk_read-number.result run.doonamurk_read-number.ensures.0 no.if-number-ne-ACCEPTED.true) c.before.before.put_refused.ensures

-- the reading is accepted
accepted : (c : tie.Else-number-ne-ACCEPTED) → read_answer_of (start c.before.before).args.packed.now most_fields ≡ 0
accepted c = sym c.before.before.doonamurk_read-number.ensures.0 ∙ c.if-number-ne-ACCEPTED.false

last-year-of-requires : tie.Need-last_year_of-requires
last-year-of-requires c κs = let yes-all = c.before.before in read_some (start yes-all.before.before).args.packed.now (accepted yes-all)

returns-2 : tie.Need-returns
returns-2 c =
    let count = c.before.before.before in
    let year = count.before in
    let yes-all = year.before.before.before in
    let run = yes-all.before.before in
    let n = count.fields_of.ensures.0 ∙ ap field_count year.last_year_of.ensures.0 in
    put_same (read_accepted (start run).args.packed.now (accepted yes-all) (bytes run) count.fields_of.result _ run.doonamurk_read-number.ensures.1 n count.fields_of.ensures.1) c.before.before.put_entries.ensures

pub put_fields_spec : {M : Type 1} → statement M
put_fields_spec =
    tie.close
    (tie.spec
    (λ c. search rules)
    (λ c κs. search rules)
    (λ c κs. search rules)
    (λ c. search rules)
    returns
    (λ c. search rules)
    last-year-of-requires
    (λ c κs. search rules)
    (λ c κs. search rules)
    (λ c. search rules)
    returns-2)
