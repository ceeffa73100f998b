-- Payments, tail payments, provisions and reserves, with their totals, are within their allowances of an exact solution carried on unrounded. Assumes nothing.
use mathlib.Core.Path.{◌≡◌, ap}
use mathlib.Core.List.{List}
use Prim.Native.Nat.{ℕ, suc, ◌+◌, ◌*◌, ◌-◌, ◌/◌, ◌≤◌, ◌<◌}
use native.Mathlib.Nat.{le_of_lt, mul_comm, mul-le-mul, mul-le-mul_left, mul-le-mul_right, div-mul-le_self, lt-div-mul-add}
use native.Mathlib.Omega.{arith}
use lib.IntN.{ℤ, pos, nat_abs, ◌-ℤ◌, ◌*ℤ◌}
use lib.ListN.{get_or}
use Rattle.rules.specs.Lists.{total, up_to}
use Rattle.rules.specs.Record.{Figures, million, most_index}
use Rattle.rules.specs.Triangle.{sum_to, paid_to}
use Rattle.rules.specs.Separation.{billion}
use Rattle.rules.specs.Tail.{tail_average, tail_payment}
use Rattle.rules.specs.Completion.{future_level, payment_of, payment, payment_row, provision, provisions, ultimate}
use Rattle.rules.specs.Expense.{reported_after, not_reported, weighted, reserve_of, reserve}
use Rattle.rules.specs.Demand.{Within, exact_payment, payment_over, first_index, exact_tail, tail_over, exact_provision, provision_over, exact_not_reported, exact_weighted, exact_reserve, reserve_over, payment_allowance, tail_allowance, provision_allowance, reserve_allowance}
use Rattle.rules.specs.Results.{first_tail_average_of}
use Rattle.laws.proofs.Diff.{up, dn, is_pos, is_self, is_add, is_minus, is_mul}
use Rattle.allowance.proofs.Rates.{Rates}
use Rattle.allowance.proofs.Within.{is_size, Near, near_of, within_of, near_same, near_add, near_times, near_floor, near_finer, near_coarser, within_sum}

-- figures f, a latest diagonal d, printed shares r, future levels l and tail payments z within the rules' limits, the shares near the exact ones x / D
pub record Basis (f : Figures) (d : ℕ) (r l z : List ℕ) (D : ℕ) (x : ℕ → ℤ) : Type 0 where
  pub latest : d ≤ billion
  pub indices : (t : ℕ) → t < f.k → get_or f.indices t 0 ≤ most_index
  pub levels : (t : ℕ) → t < f.k → get_or l t 0 ≡ future_level d (get_or f.indices t 0)
  pub first : 1 ≤ first_index f
  pub tails : (i : ℕ) → i ≤ f.k → get_or z i 0 ≡ tail_payment f.exposures (first_tail_average_of f) f.indices i
  pub share_most : (j : ℕ) → j ≤ f.k → get_or r j 0 ≤ billion
  pub share_near : (j : ℕ) → j ≤ f.k → nat_abs ((pos billion *ℤ x j) -ℤ pos (get_or r j 0 * D)) < (suc f.k - j) * D

-- a share r near x = a − b over D, times the floor of a level q / M, before it is divided by S
unit_step : (S M D K q L r a b : ℕ) → L * M ≤ q → q ≤ L * M + M → q ≤ 5 * (S * M) → r ≤ S →
    S * a ≤ S * b + r * D + K * D → S * b + r * D ≤ S * a + K * D → Near (r * L) (S * (q * a)) (S * (q * b)) (D * M) (100 * (5 * K + 1) * S)
unit_step S M D K q L r a b l h most rs below above = record {
  above = omega (arith, mul-le-mul_left (r * D) l, mul-le-mul_left q above, mul-le-mul_right (K * D) most);
  below = omega (arith, mul-le-mul_left (r * D) h, mul-le-mul_left q below, mul-le-mul_right (K * D) most, mul-le-mul_right (D * M) rs);
}

-- a payment, n claims of a unit each
payment_step : (S M D K q r n a b : ℕ) → 0 < S → 0 < M → q ≤ 5 * (S * M) → r ≤ S →
    S * a ≤ S * b + r * D + K * D → S * b + r * D ≤ S * a + K * D →
    Near (n * (r * (q / M) / S) / 100) (n * (q * a)) (n * (q * b)) (D * M * 100) (n * (5 * K + 2) + 100)
payment_step S M D K q r n a b sp mp most rs below above =
    near_floor 100 (n * (5 * K + 2) + 100) (omega arith) (omega arith)
    (near_times n
    (near_coarser S sp
    (near_floor S (100 * (5 * K + 2)) sp (omega arith)
    (unit_step S M D K q (q / M) r a b (div-mul-le_self q M) (le_of_lt (lt-div-mul-add mp)) most rs below above))))

-- a tail payment: n claims of t × e / b hundredths each, b the first index
tail_step : (n t e b : ℕ) → 0 < b → Near (n * (t * e / b) / 100) (n * (t * e)) 0 (b * 100) (n + 100)
tail_step n t e b p =
    let exact : Near (t * e) (t * e) 0 1 0 = record { above = omega arith; below = omega arith } in
    near_same (omega arith) (omega arith) (near_floor 100 (n + 100) (omega arith) (omega arith) (near_times n (near_floor b 100 p (omega arith) exact)))

-- a provision: payments R near (a − b) / (D × M × 100) and a tail payment z near w / (e × 100)
provision_step : (D M e : ℕ) {R a b z w c c' : ℕ} → Near R a b (D * (M * 100)) c → Near z w 0 (e * 100) c' →
    Near (R + z) (e * a + D * M * w) (e * b) (D * (M * 100) * e) (c + c')
provision_step D M e {R} {a} {b} {z} {w} {c} {c'} rows tail =
    let fine : Near z (D * M * w) 0 (D * (M * 100) * e) c' = near_same (omega arith) (omega arith) (near_finer (D * M) tail) in
    near_same (omega arith) (omega arith) (near_add (near_finer e rows) fine)

-- a reserve: a cumulative P and a provision R, the part B not yet reported of their sum, the weighted mean with the provision, and the ratio p of it
reserve_step : (M P B w v p : ℕ) {R a b o c : ℕ} → 0 < M → B ≤ M → w + v ≡ M → p ≤ M → Near R a b o c →
    Near (p * ((w * ((P + R) * B / M) + v * R) / M) / M) (p * (w * (B * (P * o + a)) + v * (M * a))) (p * (w * (B * b) + v * (M * b)))
    (o * M * M * M) (c + 300)
reserve_step M P B w v p {R} {a} {b} {o} {c} mp bm wv pm n =
    let whole : Near (P + R) (P * o + a) b o c = record { above = omega arith; below = omega arith } in
    let rest : Near ((P + R) * B / M) (B * (P * o + a)) (B * b) (o * M) (c + 100)
    = rw (mul_comm (P + R) B) (near_floor M (c + 100) mp (omega (arith, mul-le-mul_left c bm)) (near_times B whole)) in
    let mean : Near ((w * ((P + R) * B / M) + v * R) / M) (w * (B * (P * o + a)) + v * (M * a)) (w * (B * b) + v * (M * b)) (o * M * M) (c + 200)
    = near_floor M (c + 200) mp (omega (arith, ap (λ (z : ℕ). (c + 100) * z) wv)) (near_add (near_times w rest) (near_times v (near_finer M n))) in
    near_floor M (c + 300) mp (omega (arith, mul-le-mul_left (c + 200) pm)) (near_times p mean)

module _ (f : Figures) (d : ℕ) (r l z : List ℕ) (D : ℕ) (x : ℕ → ℤ) (basis : Basis f d r l z D x) where
  -- a payment
  pub payment_near : (i j : ℕ) → i ≤ f.k → j ≤ f.k → f.k < i + j → Within (payment f.k f.exposures r l i j) (exact_payment f d x i j) (payment_over D) (payment_allowance f i j)
  unfolding payment payment_of future_level exact_payment payment_allowance
  payment_near i j il jl lt =
      let t : ℕ = i + j - f.k - 1 in
      let e : ℕ = get_or f.indices t 0 in
      let K : suc f.k - j ≡ f.k + 1 - j = omega arith in
      let near = rw K at (basis.share_near j jl) in
      let s = is_size (is_minus (is_mul (is_pos billion) (is_self (x j))) (is_pos (get_or r j 0 * D))) in
      let q : d * e ≤ 5 * (billion * million) = omega (arith, mul-le-mul basis.latest (basis.indices t (omega arith))) in
      let n
      = payment_step billion million D (f.k + 1 - j) (d * e) (get_or r j 0) (get_or f.exposures i 0) (up (x j)) (dn (x j)) (omega arith) (omega arith) q
      (basis.share_most j jl) (omega arith) (omega arith) in
      rw (basis.levels t (omega arith)) (within_of _ (payment_over D) _ (is_mul (is_pos _) (is_self (x j))) (near_same (omega arith) (omega arith) n))

  -- a tail payment
  pub tail_near : (i : ℕ) → i ≤ f.k → Within (tail_payment f.exposures (first_tail_average_of f) f.indices i) (pos (exact_tail f i)) (tail_over f) (tail_allowance f i)
  unfolding tail_payment tail_average exact_tail tail_allowance
  tail_near i il = within_of _ (tail_over f) _ (is_pos _) (tail_step (get_or f.exposures i 0) (first_tail_average_of f) (get_or f.indices i 0) (first_index f) basis.first)

  -- the payments of a row
  row_near : (i : ℕ) → i ≤ f.k
      → Within (total (payment_row f.k f.exposures r l i)) (sum_to (λ m. exact_payment f d x i (f.k + 1 - i + m)) i) (payment_over D)
      (total (up_to (λ m. payment_allowance f i (f.k + 1 - i + m)) i))
  unfolding payment_row
  row_near i il =
      within_sum (λ m. payment f.k f.exposures r l i (f.k + 1 - i + m)) (λ m. exact_payment f d x i (f.k + 1 - i + m)) (λ m. payment_allowance f i (f.k + 1 - i + m)) (payment_over D) i
      (λ m h. payment_near i (f.k + 1 - i + m) il (omega arith) (omega arith))

  -- a provision
  pub provision_near : (i : ℕ) → i ≤ f.k → Within (provision f.k f.exposures r l z i) (exact_provision f d D x i) (provision_over f D) (provision_allowance f i)
  unfolding provision exact_provision provision_allowance
  provision_near i il =
      let rows = is_self (sum_to (λ m. exact_payment f d x i (f.k + 1 - i + m)) i) in
      let n
      = provision_step D million (first_index f) (near_of _ (payment_over D) _ rows (row_near i il)) (near_of _ (tail_over f) _ (is_pos (exact_tail f i)) (tail_near i il)) in
      rw (basis.tails i il)
      (within_of _ (provision_over f D) _ (is_add (is_mul (is_pos (first_index f)) rows) (is_pos (D * million * exact_tail f i))) (near_same (omega arith) (omega arith) n))

  -- the total of the provisions
  pub provisions_near : Within (total (provisions f.k f.exposures r l z)) (sum_to (exact_provision f d D x) (f.k + 1)) (provision_over f D)
      (total (up_to (provision_allowance f) (f.k + 1)))
  unfolding provisions
  provisions_near =
      within_sum (provision f.k f.exposures r l z) (exact_provision f d D x) (provision_allowance f) (provision_over f D) (f.k + 1) (λ i h. provision_near i (omega arith))

  module _ (c q : List ℕ) (paid : (i : ℕ) → i ≤ f.k → get_or c i 0 ≡ paid_to f.k f.increments i)
      (provided : (i : ℕ) → i ≤ f.k → get_or q i 0 ≡ provision f.k f.exposures r l z i) (ratio : ℕ) (rates : Rates f ratio) where
    -- a reserve
    pub reserve_near : (i : ℕ) → i ≤ f.k
        → Within (reserve f.k ratio f.weight f.reporting c q i) (exact_reserve f d D x ratio i) (reserve_over f D) (reserve_allowance f i)
    unfolding reserve reserve_of weighted not_reported ultimate exact_reserve exact_weighted exact_not_reported reserve_allowance
    reserve_near i il =
        let exact = is_self (exact_provision f d D x i) in
        let n
        = reserve_step million (paid_to f.k f.increments i) (reported_after f.k f.reporting i) f.weight (million - f.weight) ratio (omega arith) (rates.reporting i il)
        (omega (arith, rates.weight)) rates.ratio (near_of _ (provision_over f D) _ exact (provision_near i il)) in
        rw (paid i il, provided i il)
        (within_of _ (reserve_over f D) _
        (is_mul (is_pos _) (is_add (is_mul (is_pos _) (is_mul (is_add (is_pos _) exact) (is_pos _))) (is_mul (is_pos _) exact)))
        (near_same (omega arith) (omega arith) n))

    -- the total of the reserves
    pub reserves_near : Within (total (up_to (reserve f.k ratio f.weight f.reporting c q) (f.k + 1))) (sum_to (exact_reserve f d D x ratio) (f.k + 1)) (reserve_over f D)
        (total (up_to (reserve_allowance f) (f.k + 1)))
    reserves_near =
        within_sum (reserve f.k ratio f.weight f.reporting c q) (exact_reserve f d D x ratio) (reserve_allowance f) (reserve_over f D) (f.k + 1) (λ i h. reserve_near i (omega arith))
