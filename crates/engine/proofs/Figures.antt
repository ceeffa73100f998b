-- What the reading leaves: the figures of the record. Assumes nothing.
use Prim.Native.Nat.{ℕ}
use mathlib.Core.Path.{◌≡◌, ◌∙◌}
use mathlib.Core.List.{List, map}
use lib.IntN.{ℤ, pos}
use lib.ListN.{get_or, replicate}
use lib.Seq.{sets}
use Rattle.rules.specs.Record.{figures, increment, value_of, last_year_of, figures_of}
use Rattle.reading.specs.Reading.{row_read}
use Rattle.reading.proofs.FiguresRead.{Filled}

-- what was read are the figures of the record
pub figures_are : (s : List ℕ) → Filled s → (k : ℕ) (n : List ℕ) (p : List ℤ) (e b : List ℕ) (w : ℕ) (u : List ℕ) (a : ℕ) → k ≡ last_year_of s
    → n ≡ sets (replicate 16 0) 0 (row_read s 1) → p ≡ sets (replicate 136 (pos 0)) 0 (map (value_of increment) (row_read s 2))
    → e ≡ sets (replicate 16 0) 0 (row_read s 3) → b ≡ sets (replicate 16 0) 0 (row_read s 4) → w ≡ get_or (row_read s 5) 0 0
    → u ≡ sets (replicate 16 0) 0 (row_read s 6) → a ≡ get_or (row_read s 7) 0 0 → figures k n p e b w u a ≡ figures_of s
unfolding figures_of
figures_are s h k n p e b w u a ek en ep ee eb ew eu ea =
    rw (ek, en ∙ h.exposures, ep ∙ h.increments, ee ∙ h.indices, eb ∙ h.reporting, ew ∙ h.weight, eu ∙ h.ulae, ea ∙ h.tail)
