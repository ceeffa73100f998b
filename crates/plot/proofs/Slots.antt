-- The largest of a plot's values: one slot more, how large it is at most, and that the ticks up reach every value. Assumes nothing.
use mathlib.Core.Path.{◌≡◌, refl}
use mathlib.Core.Bool.{Bool, true, false}
use mathlib.Core.List.{List}
use Prim.Native.Nat.{ℕ, zero, suc, ◌+◌, ◌≤◌, ◌<◌, max}
use native.Mathlib.Decide.{dec_lt, ℕ_discrete}
use native.Mathlib.Nat.{not-suc-le-zero}
use native.Mathlib.Numerals.{add-one}
use native.Mathlib.Omega.{arith}
use borrow.Author.Tests.{eq-eqb, ne_eqb}
use lib.IntN.{ℤ}
use Rattle.axis.specs.Axis.{most_plotted, most_one, side_of, Sound}
use Rattle.axis.proofs.Axis.{side_most, sound, up_reaches}
use Rattle.plot.specs.declared.Series.{Series}
use Rattle.plot.specs.Plot.{first_bar, second_bar, slot_largest, largest_in, scale_for, Plotted, AllPlotted, AllReached}

-- no slot, and one more
pub largest_none : (low : Bool) (values : List ℤ) (s : Series) → 0 ≡ largest_in low values s 0
unfolding largest_in
largest_none low values s = refl

pub largest_more : (low : Bool) (values : List ℤ) (s : Series) (n : ℕ) → max (largest_in low values s n) (slot_largest low values s n) ≡ largest_in low values s (n + 1)
unfolding largest_in
largest_more low values s n = rw (add-one n)

-- a slot's is at most what its values are
slot_most_lem : (low : Bool) (values : List ℤ) (s : Series) (c : ℕ) → Plotted values s c → slot_largest low values s c ≤ most_plotted
unfolding slot_largest
slot_most_lem low values s c p = go (ℕ_discrete s.bars 2)
  where
    go : Dec (s.bars ≡ 2) → slot_largest low values s c ≤ most_plotted
    go (yes e) =
        rw (eq-eqb s.bars 2 e)
        (omega (arith, side_most low (first_bar values s c), side_most low (second_bar values s c), p.first_most, p.second_most e))
    go (no e) = rw (ne_eqb s.bars 2 e) (omega (arith, side_most low (first_bar values s c), p.first_most))

pub largest_most : (low : Bool) (values : List ℤ) (s : Series) (n : ℕ) → ((c : ℕ) → c < n → Plotted values s c) → largest_in low values s n ≤ most_plotted
unfolding largest_in
largest_most low values s zero p = omega arith
largest_most low values s (suc n) p = omega (arith, largest_most low values s n (λ c h. p c (omega arith)), slot_most_lem low values s n (p n (omega arith)))

-- and at least that of each slot
pub slot_within : (low : Bool) (values : List ℤ) (s : Series) (n c : ℕ) → c < n → slot_largest low values s c ≤ largest_in low values s n
unfolding largest_in
slot_within low values s zero c h = absurd (not-suc-le-zero h)
slot_within low values s (suc n) c h = go (slot_within low values s n c) (dec_lt c n)
  where
    go : (c < n → slot_largest low values s c ≤ largest_in low values s n) → Dec (c < n) → slot_largest low values s c ≤ largest_in low values s (suc n)
    go before (yes l) = omega (arith, before l)
    go before (no l) =
        let e : c ≡ n = omega arith in
        rw e (omega arith)

pub slot_first : (low : Bool) (values : List ℤ) (s : Series) (c : ℕ) → side_of low (first_bar values s c) ≤ slot_largest low values s c
unfolding slot_largest
slot_first low values s c = go (ℕ_discrete s.bars 2)
  where
    go : Dec (s.bars ≡ 2) → side_of low (first_bar values s c) ≤ slot_largest low values s c
    go (yes e) = rw (eq-eqb s.bars 2 e) (omega arith)
    go (no e) = rw (ne_eqb s.bars 2 e) (omega arith)

pub slot_second : (low : Bool) (values : List ℤ) (s : Series) (c : ℕ) → s.bars ≡ 2 → side_of low (second_bar values s c) ≤ slot_largest low values s c
unfolding slot_largest
slot_second low values s c e = rw (eq-eqb s.bars 2 e) (omega arith)

module _ (one : ℕ) (values : List ℤ) (s : Series) (h : 1 ≤ one) (m : one ≤ most_one) (p : AllPlotted values s) where
  -- the scale of these values
  pub scale_sound : Sound (scale_for one values s)
  unfolding scale_for
  scale_sound =
      sound one (largest_in false values s s.slots) (largest_in true values s s.slots) h m (largest_most false values s s.slots p) (largest_most true values s s.slots p)

  -- its ticks up reach them
  pub all_reached : AllReached (scale_for one values s) values s
  unfolding scale_for
  all_reached c l =
      let high = largest_in false values s s.slots in
      let low = largest_in true values s s.slots in
      let reach = up_reaches one high low h m (largest_most false values s s.slots p) (largest_most true values s s.slots p) in
      let within = slot_within false values s s.slots c l in
      record {
        first_reached = omega (arith, reach, within, slot_first false values s c);
        second_reached = λ e. omega (arith, reach, within, slot_second false values s c e);
      }
