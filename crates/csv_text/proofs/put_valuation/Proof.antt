-- The lines follow one another (put_three, put_append), the last ones by whether the year's ratio is corrected. Assumes nothing.
use mathlib.Core.Path.{sym, ◌∙◌}
use Rattle.composing.proofs.Puts.{put_none, put_append, put_three}
use Rattle.csv_text.specs.Csv.{valuation_lines}
use borrow.Author.Rules.{rules}
use Rattle.csv_text.proofs.put_valuation.Statement.{statement}
use Rattle.csv_text.proofs.put_valuation.Tie as tie

returns : tie.Need-returns-then-corrects
unfolding valuation_lines
returns c =
    let last = c.before.before in
    let first = last.before.before.before.before in
    let b = first.before.before in
    let corrected = sym b.before.corrects.ensures ∙ b.if-corrects.true in
    put_three
    b.before.before.before.before.before.before.before.before.before.before.before.before.put_beside-a.ensures
    b.before.before.before.before.put_beside-b.ensures
    (rw corrected (put_append first.put_correction-c.ensures last.put_corrected.ensures))

returns-2 : tie.Need-returns
unfolding valuation_lines
returns-2 c =
    let plain = sym c.before.corrects.ensures ∙ c.if-corrects.false in
    put_three
    c.before.before.before.before.before.before.before.before.before.before.before.before.put_beside-a.ensures
    c.before.before.before.before.put_beside-b.ensures
    (rw plain (put_none _ _))

pub put_valuation_spec : {M : Type 1} → statement M
put_valuation_spec =
    tie.close
    (tie.spec
    (λ c κs. search rules)
    (λ c κs. search rules)
    (λ c κs. search rules)
    (λ c κs. search rules)
    (λ c κs. search rules)
    (λ c. search rules)
    returns
    (λ c. search rules)
    returns-2)
