-- The reporting shares are a row of the record, found at its place. Assumes nothing.
use mathlib.Core.Path.{◌≡◌, refl, sym, ap}
use Prim.Native.Nat.{ℕ, ◌+◌}
use native.Mathlib.Omega.{arith}
use mathlib.Core.List.{List}
use mir.Syntax.{w64}
use mir.ValLaws.{to_z_pos}
use Rattle.rules.specs.Lists.{total}
use Rattle.rules.specs.Record.{last_year_of, fields_of, reporting_in}
use Rattle.packing.specs.Field.{row_at}
use Rattle.layout.specs.declared.Places.{Places}
use Rattle.layout.specs.Places.{places_of}
use Rattle.opening.proofs.Opened.{WholeRecord, whole_record, opening_yes, years_known_lem}
use Rattle.reading.proofs.ListsRead.{lists}
use Rattle.reading.proofs.Ranges.{within}
use Rattle.record_findings.specs.RecordFindings.{shares_finding}
use Rattle.record_findings.proofs.Refused.{opened}
use borrow.Author.Rules.{rules}
use Rattle.record_findings.proofs.shares_finding.Statement.{statement}
use Rattle.record_findings.proofs.shares_finding.Tie as tie

-- the record has passed questions 1 and 2
is_whole : (c : tie.After-shared_slice_known-1) → WholeRecord c.before.args.packed.now
is_whole c =
    let s = c.before in
    whole_record s.args.packed.now (λ i. omega (arith, c.shared_slice_known-1.given i)) (opened s.args.year s.args.packed.now 5 refl refl s.requires)

-- the reporting shares by their place
shares_at : {s : List ℕ} → WholeRecord s → {k : ℕ} {p : Places} → k ≡ last_year_of s → p ≡ places_of k
    → total (row_at s p.reporting 20 (k + 1)) ≡ total (reporting_in (last_year_of s) (fields_of s))
unfolding places_of
shares_at {s} h y e = rw (e, y) (ap total (sym (lists s h).reporting))

last-year-of-requires : tie.Need-last_year_of-k-requires
last-year-of-requires c κs =
    let s = c.before in
    (years_known_lem s.args.packed.now (opening_yes s.args.packed.now (opened s.args.year s.args.packed.now 5 refl refl s.requires)).0).0

sum-at-requires : tie.Need-sum_at-sum-requires
sum-at-requires c κs =
    let year = c.before.last_year_of-k in
    ((within (is_whole c.before.before) year.result c.places_of.result year.ensures.0 c.places_of.ensures).reporting, omega (arith, year.ensures.1))

returns : tie.Need-returns
unfolding shares_finding
returns c =
    let call = c.before in
    rw (
      to_z_pos w64 c.sum_at-sum.result (omega (arith, c.sum_at-sum.ensures.1)),
      c.sum_at-sum.ensures.0,
      shares_at (is_whole call.before.before) call.before.last_year_of-k.ensures.0 call.places_of.ensures,
    )

pub shares_finding_spec : {M : Type 1} → statement M
shares_finding_spec =
    tie.close
    (tie.spec
    last-year-of-requires
    (λ c κs. search rules)
    (λ c. search rules)
    sum-at-requires
    (λ c. search rules)
    (λ c. search rules)
    returns)
