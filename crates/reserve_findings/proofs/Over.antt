-- The year that question 11 names, from the provisions that were worked out up to it. Assumes nothing.
use Prim.Native.Nat.{ℕ, suc, ◌+◌, ◌*◌, ◌≤◌, ◌<◌}
use native.Mathlib.Omega.{arith}
use borrow.Author.Tests.{ne_eqb}
use mathlib.Core.Path.{◌≡◌, refl, sym, ap, ◌∙◌}
use mathlib.Core.Bool.{Bool, true, false}
use mathlib.Core.List.{List}
use lib.Dec.{leb}
use lib.IntN.{pos}
use lib.ListN.{get_or}
use Rattle.rules.specs.Lists.{up_to, padded, every}
use Rattle.rules.specs.Questions.{first_no}
use Rattle.rules.specs.Record.{Figures}
use Rattle.rules.specs.Triangle.{most_cumulative, cumulatives_pass}
use Rattle.rules.specs.Separation.{separate_answer}
use Rattle.rules.specs.Tail.{tail_questions}
use Rattle.rules.specs.Completion.{provision, provisions, ultimate, most_ultimate, ultimates_pass}
use Rattle.rules.specs.Results.{square_of, factors_in, first_tail_average_of, paid_in, levels_in, tails_in, provisions_in}
use Rattle.rules.specs.Engine.{development_passes}
use Rattle.laws.proofs.Lists.{length_up_to, every_up_to, every_yes}
use Rattle.laws.proofs.Padded.{filled_at}
use Rattle.laws.proofs.Joined.{sets_filled}
use Rattle.reading.specs.Reading.{Sound}
use Rattle.reserving.specs.Stages.{Tailed}
use Rattle.completion.specs.Asked.{Completable, most_payment, rows_asked}
use Rattle.completion.proofs.PaymentsMost.{row_most_lem}
use Rattle.results.proofs.Limits.{most_list}
use Rattle.entries.specs.Leading.{leading, asked}
use Rattle.entries.proofs.Leading.{leading_stop}
use Rattle.reasons.proofs.Counted.{counted, stops_below}
use Rattle.finding.specs.Places.{origin_year, found}
use Rattle.reserve_findings.specs.ReserveFindings.{first_ultimate_over, ultimate_finding}
use Rattle.provisions_again.specs.Provided.{provisions_asked}
use Rattle.provisions_again.proofs.Provisions.{provisions_ready}

module _ (f : Figures) where
  -- the ultimate of year i is not above the most
  abbrev low : ℕ → Bool
  low i = leb (ultimate (paid_in f) (provisions_in f) i) most_ultimate

  abbrev one : ℕ → ℕ
  one = provision f.k f.exposures (factors_in f).shares (levels_in f) (tails_in f)

  -- where question 11 says no, the year that is named is one of the years 0 to k, and its ultimate is above the most
  module _ (no : ultimates_pass f.k (paid_in f) (provisions_in f) ≡ false) where
    over_within : first_ultimate_over f < f.k + 1
    unfolding ultimates_pass first_ultimate_over
    over_within = stops_below low (f.k + 1) no

    pub over_year : first_ultimate_over f ≤ f.k
    over_year = omega (arith, over_within)

    pub over_no : leb (ultimate (paid_in f) (provisions_in f) (first_ultimate_over f)) most_ultimate ≡ false
    unfolding first_ultimate_over
    over_no = (counted low (f.k + 1)).stop over_within

    -- it is the last of the years that are asked
    last_asked : rows_asked f.k f.exposures (factors_in f).shares (levels_in f) (tails_in f) (paid_in f) ≡ suc (first_ultimate_over f)
    unfolding rows_asked provisions_in asked first_ultimate_over
    last_asked = rw (ne_eqb (leading low (f.k + 1)) (f.k + 1) (λ (e : leading low (f.k + 1) ≡ f.k + 1). omega (arith, over_within)))

    module _ (few : f.k < 16) where
      stored : provisions_asked f ≡ padded 16 0 (up_to one (suc (first_ultimate_over f)))
      unfolding provisions_asked
      stored = rw last_asked (sets_filled 16 0 (up_to one (suc (first_ultimate_over f))) (omega (arith, length_up_to one (suc (first_ultimate_over f)), over_within)))

      -- the provisions up to it are stored
      pub provision_kept : (i : ℕ) → i ≤ first_ultimate_over f → get_or (provisions_asked f) i 0 ≡ get_or (provisions_in f) i 0
      unfolding provisions_in provisions
      provision_kept i l =
          rw stored
          (filled_at 16 0 one (suc (first_ultimate_over f)) i 0 (omega arith) ∙ sym (filled_at 16 0 one (f.k + 1) i 0 (omega (arith, over_within))))

      ultimate_kept : (i : ℕ) → i ≤ first_ultimate_over f → ultimate (paid_in f) (provisions_asked f) i ≡ ultimate (paid_in f) (provisions_in f) i
      unfolding ultimate
      ultimate_kept i l = ap (λ (x : ℕ). get_or (paid_in f) i 0 + x) (provision_kept i l)

      test_kept : (i : ℕ) → i ≤ first_ultimate_over f → leb (ultimate (paid_in f) (provisions_asked f) i) most_ultimate ≡ low i
      test_kept i l = ap (λ (x : ℕ). leb x most_ultimate) (ultimate_kept i l)

      all_before : every low (up_to (λ i. i) (first_ultimate_over f)) ≡ true
      unfolding first_ultimate_over
      all_before = (counted low (f.k + 1)).before

      -- so that the first year whose ultimate is above the most is found by them
      first_found : leading (λ i. leb (ultimate (paid_in f) (provisions_asked f) i) most_ultimate) (f.k + 1) ≡ first_ultimate_over f
      first_found =
          let m = first_ultimate_over f in
          leading_stop (λ i. leb (ultimate (paid_in f) (provisions_asked f) i) most_ultimate) (f.k + 1) m over_within
          (every_yes _ (λ i. i) m (λ i l. test_kept i (omega arith) ∙ every_up_to low (λ i. i) m i all_before l))
          (test_kept m (omega arith) ∙ over_no)

      -- of arrays that hold the figures' own, the year i
      module _ (k : ℕ) (c q : List ℕ) (i : ℕ) (ek : k ≡ f.k) (ec : c ≡ paid_in f) (eq : q ≡ provisions_asked f) (ei : i ≡ leading (λ j. leb (ultimate c q j) most_ultimate) (k + 1)) where
        pub year_found : i ≡ first_ultimate_over f
        year_found = ei ∙ rw (ek, ec, eq) first_found

        pub ultimate_is : found origin_year i 0 (pos (get_or c i 0)) (pos (get_or q i 0)) (pos (get_or c i 0 + get_or q i 0)) ≡ ultimate_finding f
        unfolding ultimate_finding ultimate
        ultimate_is = rw (year_found, ec, eq, provision_kept (first_ultimate_over f) (omega arith))

  -- no provision that is stored is above 16 times the most of a payment, with payments and tail payments within theirs
  pub stored_fits : f.k < 16 → Completable f.k f.exposures (factors_in f).shares (levels_in f) → ((i : ℕ) → get_or (tails_in f) i 0 ≤ most_payment)
      → ultimates_pass f.k (paid_in f) (provisions_in f) ≡ false → (i : ℕ) → get_or (provisions_asked f) i 0 ≤ 16 * most_payment
  unfolding provision
  stored_fits few able tails refused =
      rw (stored refused few)
      (most_list (16 * most_payment) 16 (suc (first_ultimate_over f)) one
      (λ i l. omega (arith, row_most_lem f.k f.exposures (factors_in f).shares (levels_in f) able i (omega (arith, over_within refused)), tails i)))

-- what the search for that year asks of arrays that hold the figures' own
pub over_ready : (f : Figures) → Sound f → cumulatives_pass f.k f.increments ≡ true → development_passes f ≡ true → separate_answer (square_of f) f.k ≡ 0
    → first_no (tail_questions f.k (first_tail_average_of f) f.indices) ≡ 0 → ultimates_pass f.k (paid_in f) (provisions_in f) ≡ false → (k : ℕ) (c q : List ℕ) → k ≡ f.k → c ≡ paid_in f
    → q ≡ provisions_asked f → (k < 16) × (((i : ℕ) → get_or c i 0 ≤ most_cumulative) × ((i : ℕ) → get_or q i 0 ≤ 16 * most_payment))
over_ready f good six thirteen separation tail refused k c q ek ec eq =
    let t : Tailed f (tails_in f) = record { passed = tail; tails = refl } in
    let ready = provisions_ready f good six thirteen separation f.k f.exposures (factors_in f).shares (levels_in f) (tails_in f) (paid_in f) refl refl refl refl t refl in
    rw (ek, ec, eq) (good.few, (ready.1.1, stored_fits f good.few ready.0 ready.1.0 refused))
