-- k of a text, and what is wrong with its line of inflation. Assumes nothing.
use mathlib.Core.Path.{◌≡◌, sym, ap, ◌∙◌}
use mathlib.Core.Bool.{true, false}
use mathlib.Core.List.{List, []}
use Prim.Native.Nat.{ℕ, ◌+◌, ◌≤◌, ◌<◌}
use native.Mathlib.Omega.{arith}
use borrow.Author.Tests.{ne_eqb, eq-eqb}
use lib.IntN.{ℤ, pos}
use lib.ListN.{length, take, replicate, length-replicate}
use lib.Seq.{length-sets}
use Rattle.rules.specs.Record.{most_fields}
use Rattle.laws.proofs.Joined.{take_sets}
use Rattle.inflation_line.specs.InflationLine.{is_inflation, fault, fault_in}
use Rattle.sheet.specs.declared.Found.{Found}
use Rattle.sheet.specs.Sheet.{Typed, last_year_in, read_line, year_asked, inflation_line, fault_asked}
use Rattle.line_reading.specs.Reads.{Reads}
use Rattle.line_reading.proofs.Known.{line_step, good_none}

-- the first line, read into a list of zeros
module _ (line : List ℕ) (f : Found) (list : List ℤ) (word₀ word : List ℕ) (h : Reads (read_line false 1 0 [] line) f (replicate most_fields (pos 0)) list word₀ word) where
  abbrev t : Typed
  t = read_line false 1 0 [] line

  few : length t.numbers ≤ most_fields
  few = (line_step false 1 0 [] line (good_none false)).most

  count : f.count ≡ length t.numbers
  count = ap (λ (x : Found). x.count) h.said

  pub first_long : length list ≡ most_fields
  first_long = ap length h.stored ∙ length-sets (replicate most_fields (pos 0)) 0 t.numbers ∙ length-replicate most_fields (pos 0)

  pub first_count : f.count ≤ length list
  first_count = omega (arith, count, few, first_long)

  pub first_year : last_year_in (take f.count list) ≡ last_year_in t.numbers
  first_year = ap last_year_in (ap (take f.count) h.stored ∙ take_sets (replicate most_fields (pos 0)) t.numbers f.count (sym count) (omega (arith, count, few, length-replicate most_fields (pos 0))))

  pub first_few : last_year_in t.numbers < 16
  first_few = omega (arith, (line_step false 1 0 [] line (good_none false)).few)

-- by k and by the line
module _ (ls : List (List ℕ)) where
  pub fault_of_lem : (k : ℕ) → k ≡ year_asked ls → (line : List ℕ) → line ≡ inflation_line ls → 0 < k → is_inflation line ≡ true → fault_in (k + 1) line ≡ fault_asked ls
  unfolding fault_asked
  fault_of_lem k e line f h i = rw (← e, ne_eqb k 0 (λ z. omega arith), ← f, i)

  pub no_line : (k : ℕ) → k ≡ year_asked ls → (line : List ℕ) → line ≡ inflation_line ls → 0 < k → is_inflation line ≡ false → fault 0 0 ≡ fault_asked ls
  unfolding fault_asked
  no_line k e line f h i = rw (← e, ne_eqb k 0 (λ z. omega arith), ← f, i)

  pub no_year_lem : (k : ℕ) → k ≡ year_asked ls → k ≤ 0 → fault 0 0 ≡ fault_asked ls
  unfolding fault_asked
  no_year_lem k e h = rw (← e, eq-eqb k 0 (omega arith))
