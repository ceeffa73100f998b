-- Where the sections of the result list start, as the code holds it, and what may be put into them. Assumes nothing.
use Rattle.std.specs.Prelude.{ℕ, ◌+◌, ◌-◌, ◌≤◌, List, ℤ, get_or}
use Rattle.rules.specs.Lists.{up_to}
use Rattle.rules.specs.Triangle.{cell_of}
use Rattle.rules.specs.Completion.{most_ultimate}
use Rattle.rules.specs.Results.{share_section, level_section, future_level_section, payment_section, provision_section, provision_total_section, not_reported_section, reserve_section, reserve_total_section, ratio_section, factor_section, completed_section, tail_section, section_start}
use Rattle.listing.specs.declared.Starts.{Starts}

unfoldable pub starts_of : ℕ → Starts
starts_of k = record {
  shares = section_start k share_section;
  levels = section_start k level_section;
  ahead = section_start k future_level_section;
  payments = section_start k payment_section;
  provisions = section_start k provision_section;
  provision = section_start k provision_total_section;
  unreported = section_start k not_reported_section;
  reserves = section_start k reserve_section;
  reserve = section_start k reserve_total_section;
  ratio = section_start k ratio_section;
  factors = section_start k factor_section;
  completed = section_start k completed_section;
  tails = section_start k tail_section;
}

-- row i of the averages, the first entries of row i of a square s
abbrev pub average_row_of : ℕ → List (List ℤ) → ℕ → List ℤ
average_row_of k s i = up_to (cell_of s i) (k + 1 - i)

-- numbers up to 10^12, which stand in a signed list and sum without passing 64 bits
abbrev pub Addable : List ℕ → Type 0
Addable xs = (i : ℕ) → get_or xs i 0 ≤ most_ultimate
