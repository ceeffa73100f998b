-- The caption, the heads and the rows (put_five), in places and widths of the definition (stored_width). Assumes nothing.
use Rattle.composing.proofs.Puts.{put_five, put_same}
use Rattle.rules.specs.Lists.{up_to, padded}
use Rattle.table_heads.specs.Heads.{rows_in}
use Rattle.column_width.specs.Width.{column_width}
use Rattle.text_table.specs.Plain.{label_places, text_table}
use Rattle.text_table.proofs.Lines.{stored_width, head_line_same, row_lines_same}
use borrow.Author.Rules.{rules}
use Rattle.text_table.proofs.put_text_table.Statement.{statement}
use Rattle.text_table.proofs.put_text_table.Tie as tie

put-head-line-requires : tie.Need-put_head_line-d-requires
put-head-line-requires c κs = c.before.before.before.before.before.before.before.before.before.before.before.before.before.before.before.before.before.before.before.before.before.before.before.before.requires.columns_most

put-row-lines-requires : tie.Need-put_row_lines-requires
put-row-lines-requires c κs = c.before.before.before.before.before.before.before.before.before.before.before.before.before.before.before.before.before.before.before.before.before.before.before.before.before.before.before.before.before.requires

returns : tie.Need-returns
unfolding text_table
returns c =
    let a = c.before.before.before.before.before.before.before.before.before.before.before.before.before.before.before.before.before.before.before.before.before.before.before.before.before.before.before.before.before.before.before.before.args in
    let n = a.shape.columns in
    let f = column_width a.words.now a.total.now a.shape a.values.now a.styles.now in
    let places = label_places a.words.now a.labels.now a.total.now a.shape in
    put_five c.before.before.before.before.before.before.before.before.before.before.before.before.before.before.before.before.before.before.before.before.before.before.put_bytes-a.ensures c.before.before.before.before.before.before.before.before.before.before.before.before.before.before.before.before.before.before.put_line-b.ensures c.before.before.before.before.before.before.before.before.before.before.before.before.put_bytes-c.ensures
    (put_same (head_line_same (padded 20 0 (up_to f n)) (up_to f n) a.words.now a.shape places (stored_width f n)) (rw (c.before.before.before.before.before.before.before.before.before.before.before.before.before.before.before.before.before.before.before.before.before.before.before.before.before.before.before.label_places-places.ensures, c.before.before.before.before.before.before.before.before.before.before.before.before.before.before.before.before.before.before.before.before.before.before.before.before.before.before.column_widths-widths.ensures) at c.before.before.before.before.before.before.before.put_head_line-d.ensures))
    (put_same (row_lines_same (padded 20 0 (up_to f n)) (up_to f n) a.labels.now a.total.now a.shape a.values.now a.styles.now places (rows_in a.total.now a.shape) (stored_width f n)) (rw (c.before.before.before.before.before.before.before.before.before.before.before.before.before.before.before.before.before.before.before.before.before.before.before.before.before.before.before.label_places-places.ensures, c.before.before.before.before.before.before.before.before.before.before.before.before.before.before.before.before.before.before.before.before.before.before.before.before.before.before.column_widths-widths.ensures) at c.before.before.put_row_lines.ensures))

pub put_text_table_spec : {M : Type 1} → statement M
put_text_table_spec =
    tie.close
    (tie.spec
    (λ c κs. search rules)
    (λ c κs. search rules)
    (λ c κs. search rules)
    (λ c κs. search rules)
    (λ c κs. search rules)
    put-head-line-requires
    put-row-lines-requires
    (λ c. search rules)
    returns)
