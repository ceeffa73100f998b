-- A result list as text: entries one a line, entries on one line, and the answer of a call that refused. Assumes nothing.
use Rattle.std.specs.Prelude.{ℕ, ◌+◌, cond, List, [], ◌∷◌, ◌++◌, eqb, ℤ, pos, length, get_or}
use Rattle.rules.specs.Lists.{up_to, joined}
use Rattle.composing.specs.Text.{ascii, decimal, integer}

-- the byte after entry i of n: a line feed after the last, `between` after the others
unfoldable pub after : ℕ → ℕ → ℕ → ℕ
after between n i = cond (eqb (i + 1) n) 10 between

-- an entry and the byte after it
unfoldable pub entry_text : ℤ → ℕ → List ℕ
entry_text z next = integer z ++ (next ∷ [])

-- entries with a byte between them, and a line feed after the last
unfoldable pub entries_by : ℕ → List ℤ → List ℕ
entries_by between zs = joined (up_to (λ i. entry_text (get_or zs i (pos 0)) (after between (length zs) i)) (length zs))

-- entries one a line
abbrev pub entries_text : List ℤ → List ℕ
entries_text zs = entries_by 10 zs

-- entries on one line, with blanks between them
abbrev pub row_text : List ℤ → List ℕ
row_text zs = entries_by 32 zs

-- the answer of a call that refused under question n
unfoldable pub refused_text : ℕ → List ℕ
refused_text n = ascii "refused " ++ (decimal n ++ ascii "\n")
