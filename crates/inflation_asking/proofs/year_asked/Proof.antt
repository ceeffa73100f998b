-- The first line that is not bare, read as one of k. Assumes nothing.
use mathlib.Core.Path.{refl, ap, ◌∙◌}
use mathlib.Core.Bool.{false}
use mathlib.Core.List.{List, []}
use Prim.Native.Nat.{ℕ}
use native.Mathlib.Omega.{arith}
use Rattle.sheet.specs.Sheet.{last_year_in, read_line, year_asked}
use Rattle.line_reading.proofs.Known.{good_none}
use Rattle.inflation_asking.proofs.Years.{first_count, first_year, first_few}
use borrow.Author.Rules.{rules}
use Rattle.inflation_asking.proofs.year_asked.Statement.{statement}
use Rattle.inflation_asking.proofs.year_asked.Tie as tie

read-line-requires : tie.Need-read_line-found-requires
read-line-requires c κs = (omega arith, (refl, good_none false))

last-year-requires : tie.Need-last_year-requires
last-year-requires c κs = first_count _ _ _ _ _ c.before.before.before.read_line-found.ensures

returns : tie.Need-returns
unfolding year_asked
returns c =
    let r = c.before.before.before.before in
    let line = ap (λ (l : List ℕ). last_year_in (read_line false 1 0 [] l).numbers) r.before.before.before.line_wanted.ensures in
    let year = c.last_year.ensures ∙ first_year _ _ _ _ _ r.read_line-found.ensures in
    (year ∙ line, omega (arith, year, first_few _ _ _ _ _ r.read_line-found.ensures))

pub year_asked_spec : {M : Type 1} → statement M
year_asked_spec =
    tie.close
    (tie.spec
    (λ c κs. search rules)
    (λ c. search rules)
    (λ c. search rules)
    read-line-requires
    (λ c. search rules)
    last-year-requires
    returns)
