-- The call is made with a result as long as needed, the front of the list. Assumes nothing.
use borrow.Author.Rules.{rules}
use mathlib.Core.Path.{◌≡◌, refl, sym, ap, ◌∙◌}
use mathlib.Core.List.{List, ◌++◌}
use Prim.Native.Nat.{ℕ, ◌+◌, ◌-◌, ◌*◌, ◌≤◌, ◌<◌}
use native.Mathlib.Omega.{arith}
use lib.IntN.{ℤ, pos, nat_abs}
use lib.ListN.{length, get_or, take, drop}
use lib.Seq.{sets, sets-eq, length-take-le}
use Rattle.rules.specs.Lists.{up_to, padded}
use Rattle.rules.specs.Questions.{after_call}
use Rattle.rules.specs.History.{most_history, history_count, position_count, history_list, history_answer, history_into}
use Rattle.laws.proofs.Lists.{length_up_to, take_padded}
use Rattle.laws.proofs.Padded.{filled_length}
use Rattle.history.proofs.Windows.{list_length}
use Rattle.history_questions.specs.Asked.{Widths, History}
use Rattle.history_questions.proofs.Passed.{accepted_known}
use Rattle.history_parts.specs.Parts.{exposures_after, increments_after}
use Rattle.history_run.proofs.Outcomes.{room}
use Rattle.history_run.proofs.fill_from.Statement.{statement}
use Rattle.history_run.proofs.fill_from.Tie as tie

-- what is known of the history
known : (s : tie.Start) → Widths s.args.years s.args.width × History s.args.years s.args.width (exposures_after s.args.years s.args.numbers.now) (increments_after s.args.years s.args.numbers.now) (history_count s.args.years s.args.width)
known s = accepted_known s.args.years s.args.width (exposures_after s.args.years s.args.numbers.now) (increments_after s.args.years s.args.numbers.now) (history_count s.args.years s.args.width) s.requires.1

-- the exposures in their array
exposures_long : (years : ℕ) (vs : List ℤ) (xs : List ℕ) → years ≤ most_history → xs ≡ padded most_history 0 (exposures_after years vs) → (length xs ≡ most_history) × (take years xs ≡ exposures_after years vs)
unfolding exposures_after
exposures_long years vs xs h e =
    let f : ℕ → ℕ = λ i. nat_abs (get_or vs (2 + i) (pos 0)) in
    (ap length e ∙ filled_length most_history 0 f years h, ap (take years) e ∙ take_padded most_history years 0 (up_to f years) (length_up_to f years))

-- the list of a history in the front of a longer one
front : (l xs : List ℤ) (m : ℕ) → length xs ≡ m → m ≤ length l → xs ++ drop m l ≡ sets l 0 xs
front l xs m e h =
    let f : 0 + length xs ≡ m = omega arith in
    sym (sets-eq xs l 0 (omega arith) ∙ rw f)

-- what the call leaves in the front of a list
filled : (years width : ℕ) (n : List ℕ) (p l ys : List ℤ) (m : ℕ) → Widths years width → history_answer years width n p (history_count years width) ≡ 0 → m ≡ history_count years width → m ≤ length l
    → ys ≡ history_into years width n p (take m l) → ys ++ drop m l ≡ sets l 0 (history_list years width n p)
unfolding history_into after_call
filled years width n p l ys m k zeroed e h f =
    let long : length (take m l) ≡ history_count years width = length-take-le m l h ∙ e in
    let list : ys ≡ history_list years width n p = f ∙ rw (long, zeroed) in
    rw list (front l (history_list years width n p) m (list_length years width n p k ∙ sym e) h)

-- the entries of all positions
counted : (years width : ℕ) → (years - width + 1) * (1 + 2 * width) ≡ history_count years width
unfolding history_count position_count
counted years width = refl

exposures-of-requires : tie.Need-exposures_of-exposures-requires
exposures-of-requires c κs = (c.exposures_of-arg-1.given, (known c.before).0.few)

increments-of-requires : tie.Need-increments_of-cells-requires
increments-of-requires c κs = (c.increments_of-arg-1.given, (known c.before.before.before).0.few)

sub-m : tie.Need-overflow_sub-m
sub-m c = (known c.before.before.before.before).0.within

add-m : tie.Need-overflow_add-m
add-m c = omega (arith, (known c.before.before.before.before).0.few)

mul-m : tie.Need-overflow_mul-m
mul-m c = omega (arith, (known c.before.before.before.before).0.narrow)

add-m-2 : tie.Need-overflow_add-m-2
add-m-2 c = omega (arith, (known c.before.before.before.before).0.narrow)

mul-m-2 : tie.Need-overflow_mul-m-2
mul-m-2 c = let s = c.before.before.before.before in omega (arith, room s.args.years s.args.width (known s).0)

array-share-prefix-exposures : tie.Need-slice_bounds-exposures-end
array-share-prefix-exposures c =
    let s = c.before.before.before.before in
    let e = exposures_long s.args.years s.args.numbers.now c.before.before.exposures_of-exposures.result (known s).0.few c.before.before.exposures_of-exposures.ensures in
    omega (arith, e.0, (known s).0.few)

slice-aggregate-doonamurk-history : tie.Need-slice_bounds-doonamurk_history-end
slice-aggregate-doonamurk-history c =
    let s = c.before.before.before.before.before in
    let e = exposures_long s.args.years s.args.numbers.now c.before.before.before.exposures_of-exposures.result (known s).0.few c.before.before.before.exposures_of-exposures.ensures in
    sym (length-take-le s.args.years c.before.before.before.exposures_of-exposures.result (omega (arith, e.0, (known s).0.few)))

slice-relend-prefix-doonamurk-history : tie.Need-slice_bounds-doonamurk_history-end-2
slice-relend-prefix-doonamurk-history c = let s = c.before.before.before.before.before in omega (arith, s.requires.0, room s.args.years s.args.width (known s).0)

slice-aggregate-doonamurk-history-2 : tie.Need-slice_bounds-doonamurk_history-end-3
slice-aggregate-doonamurk-history-2 c =
    let s = c.before.before.before.before.before.before in
    sym (length-take-le ((s.args.years - s.args.width + 1) * (1 + 2 * s.args.width)) s.args.list.now (omega (arith, s.requires.0, room s.args.years s.args.width (known s).0)))

doonamurk-history-requires : tie.Need-doonamurk_history-requires
doonamurk-history-requires c κs = search rules

same_length : tie.Need-shape_of-list
same_length c = search rules

returns : tie.Need-returns
returns c =
    let s = c.before.before.before.before.before.before.before.before in
    let years = s.args.years in
    let width = s.args.width in
    let vs = s.args.numbers.now in
    let n = exposures_after years vs in
    let p = increments_after years vs in
    let m = (years - width + 1) * (1 + 2 * width) in
    let e = exposures_long years vs _ (known s).0.few c.before.before.before.before.before.before.exposures_of-exposures.ensures in
    filled years width n p s.args.list.now _ m (known s).0 s.requires.1 (counted years width) (omega (arith, s.requires.0, room years width (known s).0))
    (rw (e.1, c.before.before.before.before.increments_of-cells.ensures) at c.before.doonamurk_history.ensures.1)

pub fill_from_spec : {M : Type 1} → statement M
fill_from_spec =
    tie.close
    (tie.spec
    exposures-of-requires
    increments-of-requires
    sub-m
    add-m
    mul-m
    add-m-2
    mul-m-2
    array-share-prefix-exposures
    slice-aggregate-doonamurk-history
    slice-relend-prefix-doonamurk-history
    slice-aggregate-doonamurk-history-2
    doonamurk-history-requires
    same_length
    returns)
