-- The section of the line that is shown. Assumes nothing.
use Rattle.opening.proofs.Opened.{years_known_lem, opening_yes}
use borrow.Author.Rules.{rules}
use Rattle.refused_page.proofs.put_refused_rates.Statement.{statement}
use Rattle.refused_page.proofs.put_refused_rates.Tie as tie

last-year-of-requires : tie.Need-last_year_of-k-requires
last-year-of-requires c κs =
    let s = c.before.before.before in
    (years_known_lem s.args.packed.now (opening_yes s.args.packed.now s.requires.1.0).0).0

returns : tie.Need-returns
returns c = rw (c.before.before.before.shown_rates.ensures, c.before.before.before.before.before.last_year_of-k.ensures.0) at c.before.before.put_rates_section.ensures

pub put_refused_rates_spec : {M : Type 1} → statement M
put_refused_rates_spec =
    tie.close
    (tie.spec last-year-of-requires (λ c κs. search rules) (λ c κs. search rules) (λ c. search rules) returns)
