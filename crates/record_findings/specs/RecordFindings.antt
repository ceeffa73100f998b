-- The figures of questions 1, 2 and 5 of a record s where they say no (document 01, "Questions in their order"). Assumes nothing.
use Rattle.std.specs.Prelude.{ℕ, List, pos, length}
use Rattle.rules.specs.Lists.{total}
use Rattle.rules.specs.Record.{million, byte_count, last_year_of, fields_of, reporting_in}
use Rattle.finding.specs.declared.Finding.{Finding}
use Rattle.finding.specs.Places.{nowhere, found}

-- question 1: how many bytes there are
unfoldable pub given_finding : List ℕ → Finding
given_finding s = found nowhere 0 0 (pos (length s)) (pos 0) (pos 0)

-- question 2: how many bytes there are, and how many k calls for
unfoldable pub length_finding : List ℕ → Finding
length_finding s = found nowhere 0 0 (pos (length s)) (pos (byte_count (last_year_of s))) (pos 0)

-- question 5: the sum of the reporting shares, and M
unfoldable pub shares_finding : List ℕ → Finding
shares_finding s = found nowhere 0 0 (pos (total (reporting_in (last_year_of s) (fields_of s)))) (pos million) (pos 0)
