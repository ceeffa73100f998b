-- By the number of the question (ByNumber). Assumes nothing.
use borrow.Author.Rules.{rules}
use native.Mathlib.Omega.{arith}
use mathlib.Core.Path.{◌∙◌}
use Rattle.record_findings.specs.RecordFindings.{given_finding, length_finding, shares_finding}
use Rattle.record_findings.proofs.Refused.{some_bytes}
use Rattle.findings.proofs.ByNumber.{at_1, at_2, at_4, at_5, at_6, at_13, at_7, at_8, at_9, at_10, at_18, at_19, at_11, at_12, at_15, at_16, at_17, at_14, at_none}
use Rattle.findings.proofs.find.Goals as goal

pub length_finding-requires : goal.length_finding-requires
length_finding-requires c = some_bytes c.args.year c.args.packed.now (c.requires ∙ c.in-2.is)

pub returns-in-1 : goal.returns-in-1
unfolding given_finding
returns-in-1 c =
    let e = c.given_finding.ensures in
    (e ∙ at_1 _ _ c.in-1.is, rw e (omega arith, omega arith))

pub returns-in-2 : goal.returns-in-2
unfolding length_finding
returns-in-2 c =
    let e = c.length_finding.ensures in
    (e ∙ at_2 _ _ c.in-2.is, rw e (omega arith, omega arith))

pub returns-in-4 : goal.returns-in-4
returns-in-4 c = (c.field_finding.ensures.0 ∙ at_4 _ _ c.in-4.is, c.field_finding.ensures.1)

pub returns-in-5 : goal.returns-in-5
unfolding shares_finding
returns-in-5 c =
    let e = c.shares_finding.ensures in
    (e ∙ at_5 _ _ c.in-5.is, rw e (omega arith, omega arith))

pub returns-in-6 : goal.returns-in-6
returns-in-6 c = (c.cumulative_finding.ensures.0 ∙ at_6 _ _ c.in-6.is, c.cumulative_finding.ensures.1)

pub returns-in-13 : goal.returns-in-13
returns-in-13 c = (c.development_finding.ensures.0 ∙ at_13 _ _ c.in-13.is, c.development_finding.ensures.1)

pub returns-in-7 : goal.returns-in-7
returns-in-7 c = (c.totals_finding.ensures.0 ∙ at_7 _ _ c.in-7.is, c.totals_finding.ensures.1)

pub returns-in-8 : goal.returns-in-8
returns-in-8 c = (c.rest_finding.ensures.0 ∙ at_8 _ _ c.in-8.is, c.rest_finding.ensures.1)

pub returns-in-9 : goal.returns-in-9
returns-in-9 c = (c.running_finding.ensures.0 ∙ at_9 _ _ c.in-9.is, c.running_finding.ensures.1)

pub returns-in-10 : goal.returns-in-10
returns-in-10 c = (c.level_finding.ensures.0 ∙ at_10 _ _ c.in-10.is, c.level_finding.ensures.1)

pub returns-in-18 : goal.returns-in-18
returns-in-18 c = (c.tail_finding.ensures.0 ∙ at_18 _ _ c.in-18.is, c.tail_finding.ensures.1)

pub returns-in-19 : goal.returns-in-19
returns-in-19 c = (c.tail_average_finding.ensures.0 ∙ at_19 _ _ c.in-19.is, c.tail_average_finding.ensures.1)

pub returns-in-11 : goal.returns-in-11
returns-in-11 c = (c.ultimate_finding.ensures.0 ∙ at_11 _ _ c.in-11.is, c.ultimate_finding.ensures.1)

pub returns-in-12 : goal.returns-in-12
returns-in-12 c = (c.ratio_finding.ensures.0 ∙ at_12 _ _ c.in-12.is, c.ratio_finding.ensures.1)

pub returns-in-15 : goal.returns-in-15
returns-in-15 c = (c.latest_finding.ensures.0 ∙ at_15 _ _ c.in-15.is, c.latest_finding.ensures.1)

pub returns-in-16 : goal.returns-in-16
returns-in-16 c = (c.divisor_finding.ensures.0 ∙ at_16 _ _ c.in-16.is, c.divisor_finding.ensures.1)

pub returns-in-17 : goal.returns-in-17
returns-in-17 c = (c.corrected_finding.ensures.0 ∙ at_17 _ _ c.in-17.is, c.corrected_finding.ensures.1)

pub returns-in-14 : goal.returns-in-14
returns-in-14 c = (c.completed_finding.ensures.0 ∙ at_14 _ _ c.in-14.is, c.completed_finding.ensures.1)

pub returns-in_default : goal.returns-in_default
returns-in_default c = (at_none _ _ (search rules) (search rules) (search rules) (search rules) (search rules) (search rules) (search rules) (search rules) (search rules) (search rules) (search rules) (search rules) (search rules) (search rules) (search rules) (search rules) (search rules) (search rules), (omega arith, omega arith))
