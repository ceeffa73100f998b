-- The fields of a record in their order from the arrays that hold them. Assumes nothing.
use Rattle.std.specs.Prelude.{ℕ, ◌+◌, ◌<◌, ◌^◌, List, [], ◌∷◌, ◌++◌, map, ℤ, pos, get_or, take}
use Rattle.rules.specs.Record.{cells}

-- numbers that stand in a signed list
abbrev pub Signable : List ℕ → Type 0
Signable xs = (i : ℕ) → get_or xs i 0 < 2 ^ 63

-- the fields in the record's order from their arrays: k, the exposures n and the increments p; and the indices e, the reporting shares b, the weight w,
-- the ULAE totals u and the amount still to be paid a
unfoldable pub triangle_fields : ℕ → List ℕ → List ℤ → List ℤ
triangle_fields k n p = pos k ∷ (map pos (take (k + 1) n) ++ take (cells k) p)

unfoldable pub assumption_fields : ℕ → List ℕ → List ℕ → ℕ → List ℕ → ℕ → List ℤ
assumption_fields k e b w u a =
    map pos (take (k + 1) e) ++ (map pos (take (k + 1) b) ++ (pos w ∷ (map pos (take (k + 1) u) ++ (pos a ∷ []))))
