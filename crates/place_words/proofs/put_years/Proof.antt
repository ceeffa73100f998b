-- By the place. Assumes nothing.
use borrow.Author.Tests.{eq-eqb, ne_eqb}
use Rattle.composing.proofs.Puts.{put_none}
use Rattle.place_words.specs.PlaceWords.{years_text}
use borrow.Author.Rules.{rules}
use Rattle.place_words.proofs.put_years.Statement.{statement}
use Rattle.place_words.proofs.put_years.Tie as tie

returns : tie.Need-returns-then-place-eq-ORIGIN_YEAR
unfolding years_text
returns c =
    rw (eq-eqb _ _ c.before.before.before.before.if-place-eq-ORIGIN_YEAR.true) c.before.before.put_origin_year.ensures

returns-2 : tie.Need-returns-then-place-eq-DEVELOPMENT_YEAR
unfolding years_text
returns-2 c =
    rw (ne_eqb _ _ c.before.before.before.before.before.if-place-eq-ORIGIN_YEAR.false, eq-eqb _ _ c.before.before.before.before.if-place-eq-DEVELOPMENT_YEAR.true) c.before.before.put_development_year.ensures

returns-3 : tie.Need-returns-then-place-eq-PAYMENT_YEAR
unfolding years_text
returns-3 c =
    rw (ne_eqb _ _ c.before.before.before.before.before.before.if-place-eq-ORIGIN_YEAR.false, ne_eqb _ _ c.before.before.before.before.before.if-place-eq-DEVELOPMENT_YEAR.false, eq-eqb _ _ c.before.before.before.before.if-place-eq-PAYMENT_YEAR.true) c.before.before.put_payment_year.ensures

returns-4 : tie.Need-returns-then-place-eq-CELL
unfolding years_text
returns-4 c =
    rw (ne_eqb _ _ c.before.before.before.before.before.before.before.if-place-eq-ORIGIN_YEAR.false, ne_eqb _ _ c.before.before.before.before.before.before.if-place-eq-DEVELOPMENT_YEAR.false, ne_eqb _ _ c.before.before.before.before.before.if-place-eq-PAYMENT_YEAR.false, eq-eqb _ _ c.before.before.before.before.if-place-eq-CELL.true) c.before.before.put_cell.ensures

returns-5 : tie.Need-returns-then-place-eq5
unfolding years_text
returns-5 c =
    rw (ne_eqb _ _ c.before.before.before.before.before.before.before.before.if-place-eq-ORIGIN_YEAR.false, ne_eqb _ _ c.before.before.before.before.before.before.before.if-place-eq-DEVELOPMENT_YEAR.false, ne_eqb _ _ c.before.before.before.before.before.before.if-place-eq-PAYMENT_YEAR.false, ne_eqb _ _ c.before.before.before.before.before.if-place-eq-CELL.false, eq-eqb _ _ c.before.before.before.before.if-place-eq5.true) c.before.before.put_origin_year-then-place-eq5.ensures

returns-6 : tie.Need-returns-then-place-eq6
unfolding years_text
returns-6 c =
    rw (ne_eqb _ _ c.before.before.before.before.before.before.before.before.before.if-place-eq-ORIGIN_YEAR.false, ne_eqb _ _ c.before.before.before.before.before.before.before.before.if-place-eq-DEVELOPMENT_YEAR.false, ne_eqb _ _ c.before.before.before.before.before.before.before.if-place-eq-PAYMENT_YEAR.false, ne_eqb _ _ c.before.before.before.before.before.before.if-place-eq-CELL.false, ne_eqb _ _ c.before.before.before.before.before.if-place-eq5.false, eq-eqb _ _ c.before.before.before.before.if-place-eq6.true) c.before.before.put_cell-then-place-eq6.ensures

returns-7 : tie.Need-returns-then-place-eq7
unfolding years_text
returns-7 c =
    rw (ne_eqb _ _ c.before.before.before.before.before.before.before.before.before.before.if-place-eq-ORIGIN_YEAR.false, ne_eqb _ _ c.before.before.before.before.before.before.before.before.before.if-place-eq-DEVELOPMENT_YEAR.false, ne_eqb _ _ c.before.before.before.before.before.before.before.before.if-place-eq-PAYMENT_YEAR.false, ne_eqb _ _ c.before.before.before.before.before.before.before.if-place-eq-CELL.false, ne_eqb _ _ c.before.before.before.before.before.before.if-place-eq5.false, ne_eqb _ _ c.before.before.before.before.before.if-place-eq6.false, eq-eqb _ _ c.before.before.before.before.if-place-eq7.true) c.before.before.put_index.ensures

returns-8 : tie.Need-returns-then-place-eq8
unfolding years_text
returns-8 c =
    rw (ne_eqb _ _ c.before.before.before.before.before.before.before.before.before.before.before.if-place-eq-ORIGIN_YEAR.false, ne_eqb _ _ c.before.before.before.before.before.before.before.before.before.before.if-place-eq-DEVELOPMENT_YEAR.false, ne_eqb _ _ c.before.before.before.before.before.before.before.before.before.if-place-eq-PAYMENT_YEAR.false, ne_eqb _ _ c.before.before.before.before.before.before.before.before.if-place-eq-CELL.false, ne_eqb _ _ c.before.before.before.before.before.before.before.if-place-eq5.false, ne_eqb _ _ c.before.before.before.before.before.before.if-place-eq6.false, ne_eqb _ _ c.before.before.before.before.before.if-place-eq7.false, eq-eqb _ _ c.before.before.before.before.if-place-eq8.true) c.before.before.put_development_year-then-place-eq8.ensures

returns-9 : tie.Need-returns-then-place-eq10
unfolding years_text
returns-9 c =
    rw (ne_eqb _ _ c.before.before.before.before.before.before.before.before.before.before.before.before.if-place-eq-ORIGIN_YEAR.false, ne_eqb _ _ c.before.before.before.before.before.before.before.before.before.before.before.if-place-eq-DEVELOPMENT_YEAR.false, ne_eqb _ _ c.before.before.before.before.before.before.before.before.before.before.if-place-eq-PAYMENT_YEAR.false, ne_eqb _ _ c.before.before.before.before.before.before.before.before.before.if-place-eq-CELL.false, ne_eqb _ _ c.before.before.before.before.before.before.before.before.if-place-eq5.false, ne_eqb _ _ c.before.before.before.before.before.before.before.if-place-eq6.false, ne_eqb _ _ c.before.before.before.before.before.before.if-place-eq7.false, ne_eqb _ _ c.before.before.before.before.before.if-place-eq8.false, eq-eqb _ _ c.before.before.before.before.if-place-eq10.true) c.before.before.put_payment_year-then-place-eq10.ensures

returns-10 : tie.Need-returns
unfolding years_text
returns-10 c =
    rw (ne_eqb _ _ c.before.before.before.before.before.before.before.before.if-place-eq-ORIGIN_YEAR.false, ne_eqb _ _ c.before.before.before.before.before.before.before.if-place-eq-DEVELOPMENT_YEAR.false, ne_eqb _ _ c.before.before.before.before.before.before.if-place-eq-PAYMENT_YEAR.false, ne_eqb _ _ c.before.before.before.before.before.if-place-eq-CELL.false, ne_eqb _ _ c.before.before.before.before.if-place-eq5.false, ne_eqb _ _ c.before.before.before.if-place-eq6.false, ne_eqb _ _ c.before.before.if-place-eq7.false, ne_eqb _ _ c.before.if-place-eq8.false, ne_eqb _ _ c.if-place-eq10.false) (put_none _ _)

pub put_years_spec : {M : Type 1} → statement M
put_years_spec =
    tie.close
    (tie.spec
    (λ c κs. search rules)
    (λ c. search rules)
    returns
    (λ c κs. search rules)
    (λ c. search rules)
    returns-2
    (λ c κs. search rules)
    (λ c. search rules)
    returns-3
    (λ c κs. search rules)
    (λ c. search rules)
    returns-4
    (λ c κs. search rules)
    (λ c. search rules)
    returns-5
    (λ c κs. search rules)
    (λ c. search rules)
    returns-6
    (λ c κs. search rules)
    (λ c. search rules)
    returns-7
    (λ c κs. search rules)
    (λ c. search rules)
    returns-8
    (λ c κs. search rules)
    (λ c. search rules)
    returns-9
    returns-10)
