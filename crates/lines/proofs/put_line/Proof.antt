-- The first line of what stands from the start of line n on. Assumes nothing.
use mathlib.Core.Path.{sym, ap, ◌∙◌}
use lib.Seq.{length-take-le}
use Rattle.composing.proofs.Puts.{put_same}
use Rattle.lines.specs.Lines.{first_line, line_of}
use Rattle.laws.proofs.Lists.{from_place}
use borrow.Author.Rules.{rules}
use Rattle.lines.proofs.put_line.Statement.{statement}
use Rattle.lines.proofs.put_line.Tie as tie

slice-aggregate-put-bytes : tie.Need-slice_bounds-put_bytes-end
slice-aggregate-put-bytes c = sym (length-take-le _ _ c.before.line_end-end.ensures.0)

returns : tie.Need-returns
unfolding line_of
returns c =
    let e = c.before.before.before.before in
    let b = e.before.before in
    let rest = from_place b.before.before.before.args.text.now b.line_start-start.result in
    put_same (e.line_end-end.ensures.1 ∙ ap first_line (rest ∙ b.line_start-start.ensures.1)) c.before.before.put_bytes.ensures

pub put_line_spec : {M : Type 1} → statement M
put_line_spec =
    tie.close
    (tie.spec
    (λ c κs. search rules)
    (λ c. search rules)
    (λ c. search rules)
    (λ c. search rules)
    (λ c κs. search rules)
    slice-aggregate-put-bytes
    (λ c κs. search rules)
    (λ c. search rules)
    returns)
