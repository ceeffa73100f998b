-- No size of the section is above the limit (size_most). Assumes nothing.
use Rattle.section_numbers.proofs.Bounds.{size_most}
use Rattle.section_numbers.proofs.section_largest.Statement.{statement}
use Rattle.section_numbers.proofs.section_largest.Tie as tie

returns : tie.Need-returns
returns c =
    let s = c.before in
    let is = c.largest_size.ensures in
    (is, rw is (size_most s.args.start s.args.n s.args.figures.now s.requires))

pub section_largest_spec : {M : Type 1} → statement M
section_largest_spec = tie.close (tie.spec (λ c κs. c.requires.inside) returns)
