-- The page is shorter than its buffer (input_most), so what was put there is all of it (report_whole). Assumes nothing.
use native.Mathlib.Omega.{arith}
use mathlib.Core.Path.{◌∙◌}
use Rattle.composing.proofs.Puts.{put_length}
use Rattle.rules.specs.Packing.{Fit}
use Rattle.report_lengths.proofs.Reports.{input_most, report_whole}
use borrow.Author.Rules.{rules}
use Rattle.report_lengths.proofs.report.Statement.{statement}
use Rattle.report_lengths.proofs.report.Tie as tie

bytes : (c : tie.After-shared_slice_known-1) → Fit 8 c.before.args.input.now
bytes c i = omega (arith, c.shared_slice_known-1.given i)

returns : tie.Need-returns
returns c =
    let at = c.before.before in
    let s = at.before in
    let input = s.args.input.now in
    let room = c.before.put_report-arg-1.given.0.1 in (
      (
        omega (arith, input_most s.args.html input (bytes at) s.requires, c.put_report.ensures.ended),
        report_whole s.args.html input _ _ _ (bytes at) s.requires room c.put_report.ensures,
      ),
      put_length c.put_report.ensures ∙ room,
    )

pub report_spec : {M : Type 1} → statement M
report_spec =
    tie.close
    (tie.spec (λ c κs. search rules) returns)
