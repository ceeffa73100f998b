-- The label is put into nine bytes, and compared. Assumes nothing.
use mathlib.Core.Path.{◌∙◌}
use Rattle.sheet.proofs.Table.{label_cut, label_back}
use borrow.Author.Rules.{rules}
use Rattle.sheet.proofs.has_label.Statement.{statement}
use Rattle.sheet.proofs.has_label.Tie as tie

slice-aggregate-same-text : tie.Need-slice_bounds-same_text-end
slice-aggregate-same-text c = label_cut _ _ _ c.before.before.put_label-n.ensures

returns : tie.Need-returns
returns c =
    c.same_text.ensures ∙ rw (label_back c.before.before.before.before.before.before.args.row _ _ c.before.before.before.put_label-n.ensures)

pub has_label_spec : {M : Type 1} → statement M
has_label_spec =
    tie.close
    (tie.spec
    (λ c. search rules)
    (λ c κs. search rules)
    (λ c. search rules)
    slice-aggregate-same-text
    (λ c κs. search rules)
    returns)
