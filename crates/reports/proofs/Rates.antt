-- What a report says of the rates of a line is so. Assumes nothing.
use mathlib.Core.Path.{◌≡◌}
use mathlib.Core.Bool.{Bool}
use mathlib.Core.Logic.{◌⊎◌, inl, inr}
use mathlib.Core.List.{List, []}
use Prim.Native.Nat.{ℕ}
use Rattle.rates_shown.specs.RatesShown.{shown_rates, Made}
use Rattle.rates_shown.proofs.Shown.{none_shown, shown_made}
use Rattle.reports.specs.Report.{report_of}

-- a report is byte for byte the one without a line, or the rates of the line make the indices of the record
pub rates_made : (html : Bool) (title line : List ℕ) (year first : ℕ) (s : List ℕ) → (report_of html title line year first s ≡ report_of html title [] year first s) ⊎ Made s line
unfolding report_of
rates_made html title line year first s = go (shown_made s line)
  where
    go : (shown_rates s line ≡ []) ⊎ ((shown_rates s line ≡ line) × Made s line) → (report_of html title line year first s ≡ report_of html title [] year first s) ⊎ Made s line
    go (inl e) = inl (rw (e, none_shown s))
    go (inr m) = inr m.1
