-- Each test is a question, and the answer is the first that says no. Assumes nothing.
use borrow.Author.Rules.{rules}
use mathlib.Core.Path.{◌≡◌, sym, ◌∙◌}
use mathlib.Core.Bool.{true}
use Rattle.rules.specs.Questions.{first_no}
use Rattle.rules.specs.Reading.{has_last_year, opening_questions}
use Rattle.opening.proofs.opens.Statement.{statement}
use Rattle.opening.proofs.opens.Tie as tie

yes-1 : (c : tie.Else-not-has_last_year) → has_last_year c.before.before.before.args.s.now ≡ true
yes-1 c = sym c.before.has_last_year.ensures ∙ c.if-not-has_last_year.false

has-last-year-requires : tie.Need-has_last_year-requires
has-last-year-requires c κs = search rules

returns : tie.Need-returns-then-not-has_last_year
unfolding first_no opening_questions
returns c = rw (sym c.before.has_last_year.ensures ∙ c.if-not-has_last_year.true)

has-length-requires : tie.Need-has_length-requires
has-length-requires c κs = yes-1 c

returns-2 : tie.Need-returns-then-not-has_length
unfolding first_no opening_questions
returns-2 c = rw (yes-1 c.before.before, sym c.before.has_length.ensures ∙ c.if-not-has_length.true)

returns-3 : tie.Need-returns
unfolding first_no opening_questions
returns-3 c = rw (yes-1 c.before.before, sym c.before.has_length.ensures ∙ c.if-not-has_length.false)

pub opens_spec : {M : Type 1} → statement M
opens_spec =
    tie.close (tie.spec has-last-year-requires returns has-length-requires returns-2 returns-3)
