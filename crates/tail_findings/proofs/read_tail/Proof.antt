-- The arrays that are read are those of the record's figures (figures_filled). Assumes nothing.
use borrow.Author.Rules.{rules}
use native.Mathlib.Omega.{arith}
use mathlib.Core.Path.{ap, ◌∙◌}
use mathlib.Core.List.{List}
use Prim.Native.Nat.{ℕ}
use lib.Seq.{sets}
use Rattle.rules.specs.Packing.{Fit}
use Rattle.reading.specs.Reading.{row_read}
use Rattle.reading.proofs.FiguresRead.{Filled, figures_filled}
use Rattle.tail_findings.proofs.read_tail.Statement.{statement}
use Rattle.tail_findings.proofs.read_tail.Tie as tie

abbrev start : tie.After-read-opened → tie.Start
start c = c.before.before.before.before.before.before.before

bytes : (c : tie.After-read-opened) → Fit 8 (start c).args.packed.now
bytes c i = omega (arith, c.before.before.before.before.before.before.shared_slice_known-1.given i)

arrays : (c : tie.After-read-opened) → Filled (start c).args.packed.now
arrays c = let s = start c in figures_filled s.args.packed.now (bytes c) s.requires.0 s.requires.1.0

returns : tie.Need-returns
returns c =
    let s = start c in
    let read = c.read-opened.ensures in
    let held : ℕ → List ℕ → List ℕ = λ i l. sets l 0 (row_read s.args.packed.now i) in (
      read.1.1.1.1.1.1.1 ∙ (arrays c).tail,
      (
        read.1.1.0 ∙ ap (held 1) s.requires.1.1.0 ∙ (arrays c).exposures,
        read.1.1.1.1.0 ∙ ap (held 3) s.requires.1.1.1 ∙ (arrays c).indices,
      ),
    )

pub read_tail_spec : {M : Type 1} → statement M
read_tail_spec = tie.close (tie.spec (λ c κs. search rules) returns)
