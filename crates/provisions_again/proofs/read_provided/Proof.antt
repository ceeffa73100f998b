-- What is read again are the figures' own arrays (read_again), from which the provisions are worked out. Assumes nothing.
use borrow.Author.Rules.{rules}
use mathlib.Core.Path.{refl}
use Rattle.provisions_again.proofs.read_provided.Statement.{statement}
use Rattle.provisions_again.proofs.read_provided.Tie as tie

read-again-requires : tie.Need-read_again-weight-requires
read-again-requires c κs =
    let s = c.before.before.before.before.before.before.before.before in
    let held = s.requires.1 in
    (s.requires.0.opening, (s.requires.0.fields, (s.requires.0.cumulatives, (held.0, (held.1.0, (held.1.1.0, (held.1.1.1.0, refl)))))))

returns : tie.Need-returns
returns c =
    let read = c.before.before.before.before.read_again-weight.ensures in
    (read.0, (read.1.0, (read.1.1.0, (read.1.1.1.0, (read.1.1.1.1.0, c.fill_provisions.ensures)))))

pub read_provided_spec : {M : Type 1} → statement M
read_provided_spec = tie.close (tie.spec read-again-requires (λ c κs. search rules) returns)
