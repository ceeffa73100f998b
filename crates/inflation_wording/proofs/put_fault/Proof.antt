-- The refusal, the number of the line, and the words. Assumes nothing.
use Rattle.composing.proofs.Puts.{put_three, put_four, put_same}
use Rattle.inflation_wording.proofs.Words.{fault_line_lem}
use borrow.Author.Rules.{rules}
use Rattle.inflation_wording.proofs.put_fault.Statement.{statement}
use Rattle.inflation_wording.proofs.put_fault.Tie as tie

returns : tie.Need-returns
returns c =
    put_same (fault_line_lem _ _ _ c.before.before.before.before.before.before.before.before.before.before.before.before.before.before.before.before.before.before.before.before.before.before.lines_before-n.ensures.0 _ c.before.before.before.before.before.before.before.before.before.before.before.year_asked-years.ensures.0 _ c.before.before.before.before.before.before.before.before.before.line_wanted.ensures)
    (put_three c.before.before.before.before.before.before.before.before.before.before.before.before.before.before.before.before.before.before.before.before.before.before.before.before.before.before.before.before.before.before.before.put_front-front.ensures c.before.before.before.before.before.before.before.before.before.before.before.before.before.before.before.before.before.before.before.before.before.before.before.before.before.put_bytes-number.ensures (put_four c.before.before.before.before.before.before.before.before.before.before.before.before.before.before.before.before.before.before.before.before.put_decimal-colon.ensures c.before.before.before.before.before.before.before.before.before.before.before.before.before.before.put_bytes-words.ensures c.before.before.before.before.before.before.before.before.put_words-end.ensures c.before.before.put_bytes.ensures))

pub put_fault_spec : {M : Type 1} → statement M
put_fault_spec =
    tie.close
    (tie.spec
    (λ c κs. search rules)
    (λ c κs. search rules)
    (λ c κs. search rules)
    (λ c. search rules)
    (λ c κs. search rules)
    (λ c κs. search rules)
    (λ c κs. search rules)
    (λ c. search rules)
    (λ c κs. search rules)
    (λ c κs. search rules)
    (λ c κs. search rules)
    (λ c. search rules)
    returns)
