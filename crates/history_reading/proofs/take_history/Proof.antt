-- What was found decides what is said, and what is taken. Assumes nothing.
use mathlib.Core.Path.{◌≡◌, sym, ap, ◌∙◌}
use mathlib.Core.Bool.{true}
use mathlib.Core.List.{List}
use native.Mathlib.Omega.{arith}
use borrow.Author.Rules.{rules, sfits_of}
use lib.IntN.{ℤ, pos, nat_abs}
use lib.ListN.{length, get_or}
use mir.Facts.{to_z-of_z}
use mir.Syntax.{w64}
use Rattle.composing.proofs.Puts.{put_same, put_none}
use Rattle.sheet.specs.Table.{most_numbers}
use Rattle.history_wording.proofs.Told.{told_problem, told_asked, told_wrong}
use Rattle.history_reading.proofs.Outcomes.{wrong_taken, right_few, right_years, right_width, right_said}
use Rattle.history_reading.proofs.take_history.Statement.{statement}
use Rattle.history_reading.proofs.take_history.Tie as tie

abbrev start : tie.After-read_text-f → tie.Start
start r = r.before.before.before.before.before

-- the lent list is as long as its type says
long : (r : tie.After-read_text-f) → length (start r).args.list.now ≡ most_numbers
long r = search rules

put-wrong-requires : tie.Need-put_wrong-said-requires
put-wrong-requires c κs =
    let r = c.before.before.before.before.before.before.before in
    told_asked true (start r).args.text.now _ _ _ _ (long r) r.read_text-f.ensures

returns : tie.Need-returns-then-f-ne0
returns c =
    let p = c.before.before in
    let t = p.before.before.before.before.before in
    let r = t.before.before.before in
    let text = (start r).args.text.now in
    let reads = r.read_text-f.ensures in
    let w = wrong_taken text (λ e. t.if-f-ne0.true (told_problem true text _ _ _ _ (long r) reads ∙ e)) in
    (told_problem true text _ _ _ _ (long r) reads, (w.0, (w.1.0, (reads.stored, (put_same (told_wrong true text _ _ _ _ (long r) reads ∙ w.1.1) p.put_wrong-said.ensures, (omega arith, omega arith))))))

returns-2 : tie.Need-returns
returns-2 c =
    let e = c.before.before.before.before in
    let r = e.before.before.before in
    let text = (start r).args.text.now in
    let reads = r.read_text-f.ensures in
    let problem = told_problem true text _ _ _ _ (long r) reads in
    let right = sym problem ∙ e.if-f-ne0.false in
    let list : List ℤ = r.read_text-f.new.list in
    let first = to_z-of_z {w = w64} {z = get_or list 0 (pos 0)} (sfits_of c.before.before.before.size_of-arg-1.given) in
    let second = to_z-of_z {w = w64} {z = get_or list 1 (pos 0)} (sfits_of c.before.size_of-arg-2-1.given) in
    let years = c.before.before.size_of.ensures ∙ ap nat_abs first ∙ right_years text right _ list (long r) reads.stored in
    let width = c.size_of-2.ensures ∙ ap nat_abs second ∙ right_width text right _ list (long r) reads.stored in
    let few = right_few text right in
    (sym right, (years, (width, (reads.stored, (put_same (right_said text right) (put_none _ 0), (omega (arith, years, few.0), omega (arith, width, few.1)))))))

pub take_history_spec : {M : Type 1} → statement M
take_history_spec =
    tie.close
    (tie.spec
    (λ c. search rules)
    (λ c κs. search rules)
    (λ c. search rules)
    put-wrong-requires
    (λ c. search rules)
    returns
    (λ c. search rules)
    (λ c κs. search rules)
    (λ c. search rules)
    (λ c κs. search rules)
    returns-2)
