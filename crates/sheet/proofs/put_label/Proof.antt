-- The word of the row. Assumes nothing.
use mathlib.Core.Path.{ap, ◌∙◌}
use mathlib.Core.List.{List, []}
use Prim.Native.Nat.{ℕ}
use lib.ListN.{get_or}
use Rattle.composing.proofs.Puts.{put_same}
use Rattle.sheet.proofs.Table.{labels_are}
use borrow.Author.Rules.{rules}
use Rattle.sheet.proofs.put_label.Statement.{statement}
use Rattle.sheet.proofs.put_label.Tie as tie

returns : tie.Need-returns
returns c =
    let words = c.before.before.before.cell_at in
    put_same (words.ensures ∙ ap (λ (l : List (List ℕ)). get_or l c.before.before.before.before.before.before.before.before.args.row []) labels_are) c.before.before.put_bytes.ensures

pub put_label_spec : {M : Type 1} → statement M
put_label_spec =
    tie.close
    (tie.spec
    (λ c κs. search rules)
    (λ c κs. search rules)
    (λ c. search rules)
    returns)
