-- The field that is found is one of the record, and the first that is not in range (field_no); its row and its column are below 16 (field_small). Assumes nothing.
use mathlib.Core.Path.{◌≡◌, refl}
use Prim.Native.Nat.{ℕ}
use native.Mathlib.Omega.{arith}
use mathlib.Core.List.{List}
use Rattle.rules.specs.Packing.{Fit}
use Rattle.rules.specs.Questions.{first_no}
use Rattle.rules.specs.Reading.{opening_questions}
use Rattle.opening.proofs.Opened.{opening_yes, years_known_lem}
use Rattle.finding.specs.declared.Finding.{Finding}
use Rattle.record_findings.proofs.Refused.{opened}
use Rattle.field_findings.specs.Fields.{first_row, first_field_of, finding_at, field_finding}
use Rattle.field_findings.proofs.Named.{FieldFound, field_no, field_small}
use Rattle.field_findings.proofs.field_finding.Statement.{statement}
use Rattle.field_findings.proofs.field_finding.Tie as tie

-- the record has passed questions 1 and 2, and question 4 says no
passed : (c : tie.Start) → first_no (opening_questions c.args.packed.now) ≡ 0
passed c = opened c.args.year c.args.packed.now 4 refl refl c.requires

bytes : (c : tie.After-shared_slice_known-1) → Fit 8 c.before.args.packed.now
bytes c i = omega (arith, c.shared_slice_known-1.given i)

refused : (c : tie.After-shared_slice_known-1) → FieldFound c.before.args.packed.now (first_row c.before.args.packed.now) (first_field_of c.before.args.packed.now (first_row c.before.args.packed.now))
refused c = field_no c.before.args.year c.before.args.packed.now (bytes c) c.before.requires

last-year-of-requires : tie.Need-last_year_of-k-requires
last-year-of-requires c κs = (years_known_lem c.before.args.packed.now (opening_yes c.before.args.packed.now (passed c.before)).0).0

first-row-requires : tie.Need-first_row-r-requires
first-row-requires c κs = (passed c.before.before, c.last_year_of-k.ensures.0)

first-field-requires : tie.Need-first_field-requires
first-field-requires c κs =
    let at = c.before.before in
    let f = refused at in
    (passed at.before, (c.before.last_year_of-k.ensures.0, rw c.first_row-r.ensures (f.least, f.few)))

finding-at-requires : tie.Need-finding_at-requires
finding-at-requires c κs =
    let at = c.before.before.before in
    let f = refused at in
    let year = c.before.before.last_year_of-k.ensures.0 in
    (passed at.before, (year, rw (c.first_field.ensures, c.before.first_row-r.ensures, year) (f.least, (f.few, f.inside))))

-- the finding of that field
found_at : (s : List ℕ) {x : Finding} {r m : ℕ} → x ≡ finding_at s r m → r ≡ first_row s → m ≡ first_field_of s r → x ≡ field_finding s
unfolding field_finding
found_at s e f g = rw (e, g, f)

returns : tie.Need-returns
returns c =
    let at = c.before.before.before.before in
    let s = at.before.args.packed.now in
    let e = found_at s c.finding_at.ensures c.before.before.first_row-r.ensures c.before.first_field.ensures in
    (e, rw e (field_small s (refused at) (bytes at)))

pub field_finding_spec : {M : Type 1} → statement M
field_finding_spec =
    tie.close (tie.spec last-year-of-requires first-row-requires first-field-requires finding-at-requires returns)
