-- How large the figures are that are worked out from the given ones. Assumes nothing.
use Prim.Native.Nat.{ℕ, zero, suc, ◌+◌, ◌-◌, ◌*◌, ◌/◌, ◌≤◌, ◌<◌, zero-le}
use native.Mathlib.Nat.{le_trans, mul-le-mul}
use native.Mathlib.Omega.{arith}
use mathlib.Core.Path.{◌≡◌, refl, ◌∙◌}
use mathlib.Core.Bool.{true}
use mathlib.Core.List.{List}
use lib.IntN.{ℤ, pos, nat_abs, ◌+ℤ◌}
use lib.ListN.{length, get_or}
use lib.Seq.{sets, length-sets}
use Rattle.rules.specs.Lists.{up_to, joined}
use Rattle.rules.specs.Record.{million, cells}
use Rattle.rules.specs.Triangle.{sum_to, row_start, future_start}
use Rattle.rules.specs.Separation.{billion}
use Rattle.rules.specs.Results.{share_section, level_section, payment_section, completed_section, tail_section, section_start}
use Rattle.laws.proofs.Lists.{length_up_to}
use Rattle.laws.proofs.Joined.{up_to_all, joined_all, past_length}
use Rattle.laws.proofs.TriangleRows.{rows_all}
use Rattle.laws.proofs.Signed.{sum_size_lem}
use Rattle.listing.specs.Starts.{starts_of}
use Rattle.listing.proofs.Known.{known}
use Rattle.signed_sums.specs.Small.{Sized}
use Rattle.signed_sums.proofs.Adding.{sum_size_lem as terms-size}
use Rattle.vectors.specs.Vectors.{most_figures, figure_at, running, differences}
use Rattle.vectors.proofs.Before.{sized_before, sized_stored}
use Rattle.row_figures.specs.RowFigures.{row_sums, rows_running}
use Rattle.row_figures.proofs.Rows.{sized_row}
use Rattle.future_figures.specs.FutureFigures.{ultimate_place, ladder_ultimates, expected_payments, expected}
use Rattle.future_figures.proofs.Future.{payment_inside}
use Rattle.fitted_figures.specs.FittedFigures.{products, fitted}
use Rattle.allowance_figures.specs.Allowances.{allowance, allowances}
use Rattle.allowance_figures.proofs.Most.{allowance_most}
use Rattle.figure_places.specs.Places.{added_at}
use Rattle.page_figures.specs.Given.{most_given, most_worked, Based, Worked}
use Rattle.page_figures.specs.Shown.{with_cumulatives, with_paid, with_running, with_changes, with_expected, with_fitted, with_allowances, with_margins, with_ladder, worked_triangles, worked_figures}
use Rattle.page_figures.proofs.Numbers.{Numbers, numbers}
use Rattle.page_figures.proofs.Bases.{sized_part, based_cumulatives, based_paid, based_running, based_changes, based_expected, based_fitted, based_allowances, based_margins}
use Rattle.page_figures.proofs.Sizes.{sized_combined, sized_more}

-- a figure that is worked out
abbrev Most : ℤ → Type 0
Most z = nat_abs z ≤ most_worked

-- one section more
step : (at n : ℕ) (xs ys : List ℤ) → length xs ≡ most_figures → length ys ≡ n → at + n ≤ most_figures → ((i : ℕ) → Most (get_or ys i (pos 0))) → Sized most_worked 0 at xs
    → Sized most_worked 0 (at + n) (sets xs at ys)
step at n xs ys long size room small before =
    sized_more most_worked at n (sets xs at ys) (sized_before most_worked 0 at xs at ys (omega arith) before) (sized_stored most_worked xs at ys n size (omega arith) small)

-- running sums of a row, and its sum
running_small : (a n : ℕ) (xs : List ℤ) → n ≤ 16 → Sized most_given a n xs → (i : ℕ) → Most (get_or (running a n xs) i (pos 0))
unfolding running
running_small a n xs h small =
    up_to_all Most (pos 0) zero-le (λ i. sum_to (λ j. figure_at xs (a + j)) (i + 1)) n
    (λ i l. let sum = terms-size (λ j. figure_at xs (a + j)) most_given n small (i + 1) (omega arith) in omega arith)

running_length : (a n : ℕ) (xs : List ℤ) → length (running a n xs) ≡ n
unfolding running
running_length a n xs = length_up_to (λ i. sum_to (λ j. figure_at xs (a + j)) (i + 1)) n

rows_small : (k a : ℕ) (xs : List ℤ) → k < 16 → Sized most_given a (cells k) xs → (i : ℕ) → Most (get_or (rows_running k a xs) i (pos 0))
unfolding rows_running
rows_small k a xs h small =
    joined_all Most (pos 0) zero-le (λ i. running (a + row_start k i) (k + 1 - i) xs) (k + 1)
    (λ i j l. running_small (a + row_start k i) (k + 1 - i) xs (omega arith) (sized_row most_given a k i xs (omega arith) small) j)

rows_length : (k a : ℕ) (xs : List ℤ) → length (rows_running k a xs) ≡ cells k
unfolding rows_running
rows_length k a xs =
    past_length (λ i. running (a + row_start k i) (k + 1 - i) xs) k (λ i. running_length (a + row_start k i) (k + 1 - i) xs) (k + 1) ∙ rows_all k

sums_small : (k a : ℕ) (xs : List ℤ) → k < 16 → Sized most_given a (cells k) xs → (i : ℕ) → Most (get_or (row_sums k a xs) i (pos 0))
unfolding row_sums
sums_small k a xs h small =
    up_to_all Most (pos 0) zero-le (λ i. sum_to (λ j. figure_at xs (a + row_start k i + j)) (k + 1 - i)) (k + 1)
    (λ i l.
    let sum = terms-size (λ j. figure_at xs (a + row_start k i + j)) most_given (k + 1 - i) (sized_row most_given a k i xs (omega arith) small) (k + 1 - i) (omega arith) in
    omega arith)

-- expected payments
expected_small : (k y z : ℕ) (xs : List ℤ) → k < 16 → Sized most_given y (future_start (k + 1)) xs → Sized most_given z (k + 1) xs → (i : ℕ) → Most (get_or (expected k y z xs) i (pos 0))
unfolding expected expected_payments
expected_small k y z xs h small tails =
    up_to_all Most (pos 0) zero-le (λ t. sum_to (λ m. figure_at xs (y + (future_start (suc (t + m)) + t))) (k - t) +ℤ figure_at xs (z + t)) (k + 1)
    (λ t l.
    let f : ℕ → ℤ = λ m. figure_at xs (y + (future_start (suc (t + m)) + t)) in
    let terms = terms-size f most_given (k - t) (λ m j. small (future_start (suc (t + m)) + t) (payment_inside k (t + m) t (omega arith) (omega arith))) (k - t) (omega arith) in
    omega (arith, sum_size_lem (sum_to f (k - t)) (figure_at xs (z + t)), tails t (omega arith)))

-- fitted values
products_small : (r l n : ℕ) (xs : List ℤ) → Sized billion r n xs → Sized billion l n xs → (i : ℕ) → Most (get_or (products r l n xs) i (pos 0))
unfolding products
products_small r l n xs shares levels =
    up_to_all Most (pos 0) zero-le (λ j. pos (nat_abs (figure_at xs (r + j)) * nat_abs (figure_at xs (l + j)) / billion)) n
    (λ j h.
    let p : nat_abs (figure_at xs (r + j)) * nat_abs (figure_at xs (l + j)) ≤ billion * billion = mul-le-mul (shares j h) (levels j h) in
    omega arith)

products_length : (r l n : ℕ) (xs : List ℤ) → length (products r l n xs) ≡ n
unfolding products
products_length r l n xs = length_up_to (λ j. pos (nat_abs (figure_at xs (r + j)) * nat_abs (figure_at xs (l + j)) / billion)) n

fitted_small : (k r l : ℕ) (xs : List ℤ) → Sized billion r (k + 1) xs → Sized billion l (k + 1) xs → (i : ℕ) → Most (get_or (fitted k r l xs) i (pos 0))
unfolding fitted
fitted_small k r l xs shares levels =
    joined_all Most (pos 0) zero-le (λ i. products r (l + i) (k + 1 - i) xs) (k + 1)
    (λ i j h.
    products_small r (l + i) (k + 1 - i) xs (λ m t. shares m (omega arith))
    (λ m t. let e : l + i + m ≡ l + (i + m) = omega arith in rw e (levels (i + m) (omega arith))) j)

fitted_length : (k r l : ℕ) (xs : List ℤ) → length (fitted k r l xs) ≡ cells k
unfolding fitted
fitted_length k r l xs = past_length (λ i. products r (l + i) (k + 1 - i) xs) k (λ i. products_length r (l + i) (k + 1 - i) xs) (k + 1) ∙ rows_all k

-- allowances
allowances_small : (more k x : ℕ) (xs : List ℤ) → k < 16 → more ≤ 300 → Sized million x (k + 1) xs → (i : ℕ) → Most (get_or (allowances more k x xs) i (pos 0))
unfolding allowances
allowances_small more k x xs h l claims =
    up_to_all Most (pos 0) zero-le (λ i. pos (allowance (nat_abs (figure_at xs (x + i))) i + more)) (k + 1)
    (λ i t. omega (arith, allowance_most (nat_abs (figure_at xs (x + i))) i (claims i t) (omega arith)))

allowances_length : (more k x : ℕ) (xs : List ℤ) → length (allowances more k x xs) ≡ k + 1
unfolding allowances
allowances_length more k x xs = length_up_to (λ i. pos (allowance (nat_abs (figure_at xs (x + i))) i + more)) (k + 1)

-- the chain ladder's ultimates, taken from what stands before
ultimate_inside : (k p c m i : ℕ) → i ≤ k → p < m → c + future_start (k + 1) ≤ m → ultimate_place p c i < m
unfolding ultimate_place
ultimate_inside k p c m zero h l r = l
ultimate_inside k p c m (suc i) h l r = omega (arith, payment_inside k i i h (omega arith))

ladder_small : (k p c m : ℕ) (xs : List ℤ) → p < m → c + future_start (k + 1) ≤ m → Sized most_worked 0 m xs → (i : ℕ) → Most (get_or (ladder_ultimates k p c xs) i (pos 0))
unfolding ladder_ultimates
ladder_small k p c m xs l r small =
    up_to_all Most (pos 0) zero-le (λ i. figure_at xs (ultimate_place p c i)) (k + 1)
    (λ i h.
    let e : 0 + ultimate_place p c i ≡ ultimate_place p c i = omega arith in
    rw e at (small (ultimate_place p c i) (ultimate_inside k p c m i (omega arith) l r)))

sums_length : (k a : ℕ) (xs : List ℤ) → length (row_sums k a xs) ≡ k + 1
unfolding row_sums
sums_length k a xs = length_up_to (λ i. sum_to (λ j. figure_at xs (a + row_start k i + j)) (k + 1 - i)) (k + 1)

expected_length : (k y z : ℕ) (xs : List ℤ) → length (expected k y z xs) ≡ k + 1
unfolding expected
expected_length k y z xs = length_up_to (expected_payments k y z xs) (k + 1)

ladder_length : (k p c : ℕ) (xs : List ℤ) → length (ladder_ultimates k p c xs) ≡ k + 1
unfolding ladder_ultimates
ladder_length k p c xs = length_up_to (λ i. figure_at xs (ultimate_place p c i)) (k + 1)

-- all of them, section after section
module _ (k : ℕ) (xs : List ℤ) (few : k < 16) (based : Based k xs) where
  at_all : Numbers (added_at k) (starts_of k) k
  at_all = numbers (added_at k) (starts_of k) k few refl refl

  -- the given part of a later array
  given : (a n : ℕ) (ys : List ℤ) → a + n ≤ (added_at k).cumulatives → Based k ys → Sized most_given a n ys
  given a n ys h b = sized_part most_given most_given (added_at k).cumulatives a n ys (omega arith) h b.entries

  s1 : Sized most_worked 0 (added_at k).paid (with_cumulatives k xs)
  unfolding with_cumulatives
  s1 =
      let n = at_all in
      let q = known k in
      let e : (added_at k).cumulatives + (cells k) ≡ (added_at k).paid = omega arith in
      rw e at
      (step (added_at k).cumulatives (cells k) xs (rows_running k (added_at k).increments xs) based.long (rows_length k (added_at k).increments xs) (omega arith)
      (rows_small k (added_at k).increments xs few (given (added_at k).increments (cells k) xs (omega arith) based)) (sized_part most_given most_worked (added_at k).cumulatives 0 (added_at k).cumulatives xs (omega arith) (omega arith) based.entries))

  b1 : Based k (with_cumulatives k xs)
  b1 = based_cumulatives k xs based

  abbrev x1 : List ℤ
  x1 = (with_cumulatives k xs)

  s2 : Sized most_worked 0 (added_at k).running (with_paid k (with_cumulatives k xs))
  unfolding with_paid
  s2 =
      let n = at_all in
      let q = known k in
      let e : (added_at k).paid + (k + 1) ≡ (added_at k).running = omega arith in
      rw e at
      (step (added_at k).paid (k + 1) x1 (row_sums k (added_at k).increments x1) b1.long (sums_length k (added_at k).increments x1) (omega arith)
      (sums_small k (added_at k).increments x1 few (given (added_at k).increments (cells k) x1 (omega arith) b1)) s1)

  b2 : Based k (with_paid k (with_cumulatives k xs))
  b2 = based_paid k (with_cumulatives k xs) b1

  abbrev x2 : List ℤ
  x2 = (with_paid k (with_cumulatives k xs))

  s3 : Sized most_worked 0 (added_at k).changes (with_running k (with_paid k (with_cumulatives k xs)))
  unfolding with_running
  s3 =
      let n = at_all in
      let q = known k in
      let e : (added_at k).running + (k + 1) ≡ (added_at k).changes = omega arith in
      rw e at
      (step (added_at k).running (k + 1) x2 (running (section_start k share_section) (k + 1) x2) b2.long (running_length (section_start k share_section) (k + 1) x2) (omega arith)
      (running_small (section_start k share_section) (k + 1) x2 (omega arith) (given (section_start k share_section) (k + 1) x2 (omega arith) b2)) s2)

  b3 : Based k (with_running k (with_paid k (with_cumulatives k xs)))
  b3 = based_running k (with_paid k (with_cumulatives k xs)) b2

  abbrev x3 : List ℤ
  x3 = (with_running k (with_paid k (with_cumulatives k xs)))

  s4 : Sized most_worked 0 (added_at k).expected (with_changes k (with_running k (with_paid k (with_cumulatives k xs))))
  unfolding with_changes
  s4 =
      let n = at_all in
      let q = known k in
      let e : (added_at k).changes + (2 * k) ≡ (added_at k).expected = omega arith in
      rw e at
      (sized_more most_worked (added_at k).changes (2 * k) (sets x3 (added_at k).changes (differences (section_start k level_section + 1) (section_start k level_section) (2 * k) x3)) (sized_before most_worked 0 (added_at k).changes x3 (added_at k).changes (differences (section_start k level_section + 1) (section_start k level_section) (2 * k) x3) (omega arith) s3)
      (sized_combined most_given most_given most_worked true (section_start k level_section + 1) (section_start k level_section) (2 * k) x3 (added_at k).changes (omega arith) (omega (arith, b3.long))
      (given (section_start k level_section + 1) (2 * k) x3 (omega arith) b3) (given (section_start k level_section) (2 * k) x3 (omega arith) b3)))

  pub b4 : Based k (with_changes k (with_running k (with_paid k (with_cumulatives k xs))))
  b4 = based_changes k (with_running k (with_paid k (with_cumulatives k xs))) b3

  abbrev x4 : List ℤ
  x4 = (with_changes k (with_running k (with_paid k (with_cumulatives k xs))))

  s5 : Sized most_worked 0 (added_at k).fitted (with_expected k (with_changes k (with_running k (with_paid k (with_cumulatives k xs)))))
  unfolding with_expected
  s5 =
      let n = at_all in
      let q = known k in
      let e : (added_at k).expected + (k + 1) ≡ (added_at k).fitted = omega arith in
      rw e at
      (step (added_at k).expected (k + 1) x4 (expected k (section_start k payment_section) (section_start k tail_section) x4) b4.long (expected_length k (section_start k payment_section) (section_start k tail_section) x4) (omega arith)
      (expected_small k (section_start k payment_section) (section_start k tail_section) x4 few (given (section_start k payment_section) (future_start (k + 1)) x4 (omega arith) b4) (given (section_start k tail_section) (k + 1) x4 (omega arith) b4)) s4)

  b5 : Based k (with_expected k (with_changes k (with_running k (with_paid k (with_cumulatives k xs)))))
  b5 = based_expected k (with_changes k (with_running k (with_paid k (with_cumulatives k xs)))) b4

  abbrev x5 : List ℤ
  x5 = (with_expected k (with_changes k (with_running k (with_paid k (with_cumulatives k xs)))))

  s6 : Sized most_worked 0 (added_at k).allowances (with_fitted k (with_expected k (with_changes k (with_running k (with_paid k (with_cumulatives k xs))))))
  unfolding with_fitted
  s6 =
      let n = at_all in
      let q = known k in
      let e : (added_at k).fitted + (cells k) ≡ (added_at k).allowances = omega arith in
      rw e at
      (step (added_at k).fitted (cells k) x5 (fitted k (section_start k share_section) (section_start k level_section) x5) b5.long (fitted_length k (section_start k share_section) (section_start k level_section) x5) (omega arith)
      (fitted_small k (section_start k share_section) (section_start k level_section) x5 b5.shares b5.levels) s5)

  b6 : Based k (with_fitted k (with_expected k (with_changes k (with_running k (with_paid k (with_cumulatives k xs))))))
  b6 = based_fitted k (with_expected k (with_changes k (with_running k (with_paid k (with_cumulatives k xs))))) b5

  abbrev x6 : List ℤ
  x6 = (with_fitted k (with_expected k (with_changes k (with_running k (with_paid k (with_cumulatives k xs))))))

  s7 : Sized most_worked 0 (added_at k).margins (with_allowances k (with_fitted k (with_expected k (with_changes k (with_running k (with_paid k (with_cumulatives k xs)))))))
  unfolding with_allowances
  s7 =
      let n = at_all in
      let q = known k in
      let e : (added_at k).allowances + (k + 1) ≡ (added_at k).margins = omega arith in
      rw e at
      (step (added_at k).allowances (k + 1) x6 (allowances 0 k (added_at k).exposures x6) b6.long (allowances_length 0 k (added_at k).exposures x6) (omega arith)
      (allowances_small 0 k (added_at k).exposures x6 few (omega arith) b6.exposures) s6)

  b7 : Based k (with_allowances k (with_fitted k (with_expected k (with_changes k (with_running k (with_paid k (with_cumulatives k xs)))))))
  b7 = based_allowances k (with_fitted k (with_expected k (with_changes k (with_running k (with_paid k (with_cumulatives k xs)))))) b6

  abbrev x7 : List ℤ
  x7 = (with_allowances k (with_fitted k (with_expected k (with_changes k (with_running k (with_paid k (with_cumulatives k xs)))))))

  s8 : Sized most_worked 0 (added_at k).ladder (with_margins k (with_allowances k (with_fitted k (with_expected k (with_changes k (with_running k (with_paid k (with_cumulatives k xs))))))))
  unfolding with_margins
  s8 =
      let n = at_all in
      let q = known k in
      let e : (added_at k).margins + (k + 1) ≡ (added_at k).ladder = omega arith in
      rw e at
      (step (added_at k).margins (k + 1) x7 (allowances 300 k (added_at k).exposures x7) b7.long (allowances_length 300 k (added_at k).exposures x7) (omega arith)
      (allowances_small 300 k (added_at k).exposures x7 few (omega arith) b7.exposures) s7)

  b8 : Based k (with_margins k (with_allowances k (with_fitted k (with_expected k (with_changes k (with_running k (with_paid k (with_cumulatives k xs))))))))
  b8 = based_margins k (with_allowances k (with_fitted k (with_expected k (with_changes k (with_running k (with_paid k (with_cumulatives k xs))))))) b7

  abbrev x8 : List ℤ
  x8 = (with_margins k (with_allowances k (with_fitted k (with_expected k (with_changes k (with_running k (with_paid k (with_cumulatives k xs))))))))

  s9 : Sized most_worked 0 (added_at k).remaining (with_ladder k (with_margins k (with_allowances k (with_fitted k (with_expected k (with_changes k (with_running k (with_paid k (with_cumulatives k xs)))))))))
  unfolding with_ladder
  s9 =
      let n = at_all in
      let q = known k in
      let e : (added_at k).ladder + (k + 1) ≡ (added_at k).remaining = omega arith in
      rw e at
      (step (added_at k).ladder (k + 1) x8 (ladder_ultimates k (added_at k).paid (section_start k completed_section) x8) b8.long (ladder_length k (added_at k).paid (section_start k completed_section) x8) (omega arith)
      (ladder_small k (added_at k).paid (section_start k completed_section) (added_at k).ladder x8 (omega arith) (omega arith) s8) s8)

  pub triangles_based : Based k (worked_triangles k xs)
  unfolding worked_triangles
  triangles_based = b4

  pub all_worked : Worked k (worked_figures k (worked_triangles k xs))
  unfolding worked_triangles worked_figures with_ladder
  all_worked =
      record { long = length-sets x8 (added_at k).ladder (ladder_ultimates k (added_at k).paid (section_start k completed_section) x8) ∙ b8.long; entries = s9 }
