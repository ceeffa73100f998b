-- The reason by the arrays that are read again, which is that by the figures (Development, Totals). Assumes nothing.
use mathlib.Core.Path.{◌≡◌, refl}
use Rattle.rules.specs.Record.{figures_of}
use Rattle.rules.specs.Results.{square_of}
use Rattle.opening.proofs.Opened.{years_known_lem, opening_yes}
use Rattle.composing.proofs.Puts.{put_same}
use Rattle.refusals.specs.Refusal.{totals_of, development_of}
use Rattle.refusals.proofs.Totals.{reason_is}
use Rattle.refusals.proofs.Development.{ready, development_is}
use borrow.Author.Rules.{rules}
use Rattle.refusals.proofs.put_reason.Statement.{statement}
use Rattle.refusals.proofs.put_reason.Tie as tie

read-again-requires : tie.Need-read_again-requires
read-again-requires c κs =
    let passed = c.before.before.before.before.before.before.before.before.before.requires.0 in
    (passed.0, (passed.1.0, (passed.1.1, (refl, (refl, (refl, (refl, refl)))))))

abbrev start : tie.After-read_again → tie.Start
start c = c.before.before.before.before.before.before.before.before.before.before

last-year-of-requires : tie.Need-last_year_of-k-requires
last-year-of-requires c κs = let s = start c in (years_known_lem s.args.packed.now (opening_yes s.args.packed.now s.requires.0.0).0).0

year_is : (c : tie.After-last_year_of-k) → c.last_year_of-k.result ≡ (figures_of (start c.before).args.packed.now).k
unfolding figures_of
year_is c = c.last_year_of-k.ensures.0

put-development-reason-requires : tie.Need-put_development_reason-requires
put-development-reason-requires c κs =
    let then = c.before.before.before in
    let year = then.before in
    let s = start year.before in
    let read = year.before.read_again.ensures in
    ready (figures_of s.args.packed.now) (s.requires.1 then.if-development.true) _ _ _ (year_is year) year.last_year_of-k.ensures.1 read.1.1.1.1.1.0 read.1.1.1.1.0 s.requires.0.1.1

returns : tie.Need-returns-then-development
unfolding development_of
returns c =
    let then = c.before.before.before.before.before.before in
    let year = then.before in
    let s = start year.before in
    let read = year.before.read_again.ensures in
    let same = development_is (figures_of s.args.packed.now) (s.requires.1 then.if-development.true) _ _ _ (year_is year) year.last_year_of-k.ensures.1 read.1.1.1.1.1.0 read.1.1.1.1.0 in
    rw then.if-development.true (put_same same c.before.before.put_development_reason.ensures)

returns-2 : tie.Need-returns
unfolding totals_of
returns-2 c =
    let else = c.before.before.before.before.before.before in
    let year = else.before in
    let s = start year.before in
    let totals = year.before.read_again.ensures.1.1.1.1.1.1 in
    let same = reason_is (square_of (figures_of s.args.packed.now)) _ _ _ _ (year_is year) year.last_year_of-k.ensures.1 totals.0 totals.1 in
    rw else.if-development.false (put_same same c.before.before.put_totals_reason.ensures)

pub put_reason_spec : {M : Type 1} → statement M
put_reason_spec =
    tie.close
    (tie.spec
    read-again-requires
    last-year-of-requires
    put-development-reason-requires
    (λ c. search rules)
    returns
    (λ c κs. search rules)
    (λ c. search rules)
    returns-2)
