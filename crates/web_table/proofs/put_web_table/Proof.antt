-- The width is the definition's, and the parts follow one another (put_five). Assumes nothing.
use mathlib.Core.Path.{◌≡◌, ap, ◌∙◌}
use Rattle.composing.proofs.Puts.{put_five}
use Rattle.table_heads.specs.Heads.{rows_in}
use Rattle.table_heads.proofs.Shapes.{rows_in_room}
use Rattle.table_width.specs.Width.{measure}
use Rattle.web_table.specs.Web.{web_table}
use borrow.Author.Rules.{rules}
use Rattle.web_table.proofs.put_web_table.Statement.{statement}
use Rattle.web_table.proofs.put_web_table.Tie as tie

rows-in-requires : tie.Need-rows_in-requires
rows-in-requires c κs = c.before.before.before.before.requires.rows_most

measure-of-requires : tie.Need-measure_of-width-requires
measure-of-requires c κs =
    let s = c.before.before.before.before.before in
    (s.requires.columns_most, rw c.rows_in.ensures (rows_in_room s.args.total.now s.args.shape s.requires))

put-web-heads-requires : tie.Need-put_web_heads-body-requires
put-web-heads-requires c κs = c.before.before.before.before.before.before.before.before.before.before.before.requires.columns_most

returns : tie.Need-returns
unfolding web_table
returns c =
    let a = c.before.before.before.before.before.before.before.before.before.before.before.before.before.before.before.before.before.before.before.before.before.before.before.before.before.before.before.before.args in
    let width : c.before.before.before.before.before.before.before.before.before.before.before.before.before.before.before.before.before.before.before.before.before.before.measure_of-width.result ≡ measure a.values.now a.styles.now a.shape.columns (rows_in a.total.now a.shape) = c.before.before.before.before.before.before.before.before.before.before.before.before.before.before.before.before.before.before.before.before.before.before.measure_of-width.ensures ∙ ap (measure a.values.now a.styles.now a.shape.columns) c.before.before.before.before.before.before.before.before.before.before.before.before.before.before.before.before.before.before.before.before.before.before.before.rows_in.ensures in
    put_five (rw width at c.before.before.before.before.before.before.before.before.before.before.before.before.before.before.before.before.before.before.before.before.put_web_top-heads.ensures) c.before.before.before.before.before.before.before.before.before.before.before.before.before.before.before.before.put_web_heads-body.ensures c.before.before.before.before.before.before.before.before.before.before.before.before.put_web_body-foot.ensures c.before.before.before.before.before.before.before.before.put_web_foot-end.ensures c.before.before.put_bytes.ensures

pub put_web_table_spec : {M : Type 1} → statement M
put_web_table_spec =
    tie.close
    (tie.spec
    rows-in-requires
    measure-of-requires
    (λ c κs. search rules)
    put-web-heads-requires
    (λ c κs. search rules)
    (λ c κs. search rules)
    (λ c κs. search rules)
    (λ c. search rules)
    returns)
