-- The provisions are worked out again of arrays that hold the figures' own: what each stage asks for and leaves (Later). Assumes nothing.
use Prim.Native.Nat.{ℕ, ◌≤◌, ◌<◌}
use native.Mathlib.Omega.{arith}
use mathlib.Core.Path.{◌≡◌, refl, sym, ◌∙◌}
use mathlib.Core.Bool.{true}
use mathlib.Core.List.{List}
use lib.IntN.{ℤ}
use lib.ListN.{get_or, replicate}
use lib.Seq.{sets}
use Rattle.rules.specs.Lists.{up_to}
use Rattle.rules.specs.Questions.{first_no}
use Rattle.rules.specs.Record.{Figures, most_index}
use Rattle.rules.specs.Triangle.{most_cumulative, cumulatives_pass, TotalsIn}
use Rattle.rules.specs.Separation.{billion, separate_answer, separated}
use Rattle.rules.specs.Tail.{first_tail_average, tail_questions}
use Rattle.rules.specs.Completion.{future_levels, provision, ultimates_pass}
use Rattle.rules.specs.Results.{square_of, factors_in, first_tail_average_of, paid_in, levels_in, tails_in, provisions_in, development_in}
use Rattle.rules.specs.Engine.{development_passes}
use Rattle.rules.specs.declared.Factors.{Factors}
use Rattle.reading.specs.Reading.{Sound}
use Rattle.triangle.proofs.Square.{cells_bounded}
use Rattle.totals.proofs.Square.{zero_outside}
use Rattle.totals.specs.Summed.{Summed}
use Rattle.tail.specs.Tailable.{Tailable, tails_carried}
use Rattle.completion.specs.Asked.{Completable, most_payment, rows_asked}
use Rattle.reserving.specs.Stages.{Separated, Tailed}
use Rattle.reserving.proofs.Later as stage
use Rattle.figures_run.proofs.Before.{factors_are}
use Rattle.separated_run.proofs.Tails.{tails_are}
use Rattle.provisions_again.specs.Provided.{provisions_asked}

-- the totals of the averages are those of a square within its limits
pub summed : (f : Figures) → Sound f → (k : ℕ) (v d : List ℤ) → k ≡ f.k → TotalsIn (square_of f) v d → Summed (square_of f) k v d
unfolding square_of
summed f good k v d ek t = rw ek (record {
  cells = cells_bounded f.k f.exposures f.increments good.few good.exposures good.increments;
  outside = zero_outside f.k f.exposures f.increments good.few;
  totals = t;
})

-- what carrying the tail on asks for
pub tail_ready : (f : Figures) → Sound f → (k a : ℕ) (n e : List ℕ) → k ≡ f.k → a ≡ f.tail → n ≡ f.exposures → e ≡ f.indices → Tailable k a n e
tail_ready f good k a n e ek ea en ee = rw (ek, ea, en, ee) (record {
  years = record { few = good.few; exposures = good.exposures_most; first_index = good.first_index; indices = good.indices };
  tail = good.tail;
  claims = (good.exposures 0 (omega arith)).0;
})

-- and the tail payments that it leaves
pub tails_found : (f : Figures) → Sound f → first_no (tail_questions f.k (first_tail_average_of f) f.indices) ≡ 0 → (k a : ℕ) (n e z : List ℕ) → k ≡ f.k → a ≡ f.tail → n ≡ f.exposures → e ≡ f.indices
    → z ≡ sets (replicate 16 0) 0 (tails_carried k n (first_tail_average a n) e) → Tailed f z
unfolding first_tail_average_of
tails_found f good passed k a n e z ek ea en ee ez = tails_are f good.few z (ez ∙ rw (ek, ea, en, ee)) passed

-- the factors, with k of the record
pub factors_found : (f : Figures) (k : ℕ) (g : Factors) → k ≡ f.k → g ≡ separated (square_of f) k → separate_answer (square_of f) f.k ≡ 0 → g ≡ factors_in f
factors_found f k g ek eg passed = factors_are f g (eg ∙ rw ek) passed

-- the figures after the separation
module _ (f : Figures) (good : Sound f) (six : cumulatives_pass f.k f.increments ≡ true) (thirteen : development_passes f ≡ true) (passed : separate_answer (square_of f) f.k ≡ 0) where
  parted : Separated f (square_of f) (development_in f) (paid_in f) (factors_in f).shares (factors_in f).levels
  parted = record {
    sound = good;
    cumulatives = six;
    square = refl;
    development = thirteen;
    factors = refl;
    paid = refl;
    accepted = passed;
    shares = refl;
    levels = refl;
  }

  -- what the future levels ask for, and that they are the figures' own
  module _ (k : ℕ) (l e : List ℕ) (ek : k ≡ f.k) (el : l ≡ (factors_in f).levels) (ee : e ≡ f.indices) where
    pub levels_ready : (k < 16) × ((get_or l k 0 ≤ billion) × ((t : ℕ) → get_or e t 0 ≤ most_index))
    levels_ready = rw (ek, el, ee) (good.few, (stage.levels_fit f _ _ _ _ _ parted f.k, good.indices))

    pub levels_found : (a : List ℕ) → a ≡ sets (replicate 16 0) 0 (future_levels k (get_or l k 0) e) → a ≡ levels_in f
    levels_found a ea = stage.ahead_is f _ _ _ _ _ parted a (ea ∙ rw (ek, el, ee))

  own : levels_in f ≡ sets (replicate 16 0) 0 (future_levels f.k (get_or (factors_in f).levels f.k 0) f.indices)
  own = sym (stage.ahead_is f _ _ _ _ _ parted (sets (replicate 16 0) 0 (future_levels f.k (get_or (factors_in f).levels f.k 0) f.indices)) refl)

  -- the exposures n, the shares r, the future levels a, the tail payments z and the paid cumulatives c
  pub completable : Completable f.k f.exposures (factors_in f).shares (levels_in f)
  completable = stage.completable f _ _ _ _ _ parted (levels_in f) own

  module _ (k : ℕ) (n r a z c : List ℕ) (ek : k ≡ f.k) (en : n ≡ f.exposures) (er : r ≡ (factors_in f).shares) (ea : a ≡ levels_in f) (tailed : Tailed f z) (ec : c ≡ paid_in f) where
    pub provisions_ready : Completable k n r a × (((i : ℕ) → get_or z i 0 ≤ most_payment) × ((i : ℕ) → get_or c i 0 ≤ most_cumulative))
    provisions_ready = rw (ek, en, er, ea, ec) (completable, (stage.tails_fit f _ _ _ _ _ parted z tailed, stage.paid_fits f _ _ _ _ _ parted))

    pub provisions_found : (held q : List ℕ) → held ≡ replicate 16 0 → q ≡ sets held 0 (up_to (provision k n r a z) (rows_asked k n r a z c)) → q ≡ provisions_asked f
    unfolding provisions_asked
    provisions_found held q eh eq = eq ∙ rw (eh, ek, en, er, ea, tailed.tails, ec)

  -- where question 11 says yes they are all of them
  pub all_provisions : first_no (tail_questions f.k (first_tail_average_of f) f.indices) ≡ 0 → ultimates_pass f.k (paid_in f) (provisions_in f) ≡ true → provisions_asked f ≡ provisions_in f
  unfolding provisions_asked
  all_provisions tail eleven =
      stage.provisions_are f _ _ _ _ _ parted (levels_in f) own (tails_in f) (record { passed = tail; tails = refl }) eleven (provisions_asked f) refl
