-- Five texts, one after another. Assumes nothing.
use Rattle.composing.proofs.Puts.{put_five}
use Rattle.sheet_wording.specs.Problem.{problem_line}
use borrow.Author.Rules.{rules}
use Rattle.sheet_wording.proofs.put_problem.Statement.{statement}
use Rattle.sheet_wording.proofs.put_problem.Tie as tie

returns : tie.Need-returns
unfolding problem_line
returns c =
    put_five c.before.before.before.before.before.before.before.before.before.before.before.before.before.before.before.before.before.before.before.before.before.before.put_bytes-number.ensures c.before.before.before.before.before.before.before.before.before.before.before.before.before.before.before.before.before.before.put_decimal-colon.ensures c.before.before.before.before.before.before.before.before.before.before.before.before.put_bytes-words.ensures c.before.before.before.before.before.before.before.before.put_words-end.ensures c.before.before.put_bytes.ensures

pub put_problem_spec : {M : Type 1} → statement M
put_problem_spec =
    tie.close
    (tie.spec
    (λ c κs. search rules)
    (λ c κs. search rules)
    (λ c κs. search rules)
    (λ c κs. search rules)
    (λ c κs. search rules)
    (λ c. search rules)
    returns)
