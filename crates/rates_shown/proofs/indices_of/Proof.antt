-- What is read into arrays of zeros is the record's figures (figures_filled). Assumes nothing.
use native.Mathlib.Omega.{arith}
use mathlib.Core.Path.{◌∙◌}
use Rattle.rules.specs.Packing.{Fit}
use Rattle.reading.proofs.FiguresRead.{figures_filled}
use borrow.Author.Rules.{rules}
use Rattle.rates_shown.proofs.indices_of.Statement.{statement}
use Rattle.rates_shown.proofs.indices_of.Tie as tie

bytes : (c : tie.After-shared_slice_known-1) → Fit 8 c.before.args.packed.now
bytes c i = omega (arith, c.shared_slice_known-1.given i)

returns : tie.Need-returns
returns c =
    let at = c.before.before.before.before.before.before in
    let s = at.before in
    c.read.ensures.1.1.1.1.0 ∙ (figures_filled s.args.packed.now (bytes at) s.requires.0 s.requires.1).indices

pub indices_of_spec : {M : Type 1} → statement M
indices_of_spec = tie.close (tie.spec (λ c κs. search rules) returns)
