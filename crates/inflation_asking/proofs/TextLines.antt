-- The lines of a text, one after another: where the first is that is wanted, and a line by its number. Assumes nothing.
use mathlib.Core.Path.{◌≡◌, refl, ap, ◌∙◌}
use mathlib.Core.Bool.{Bool, true, false}
use mathlib.Core.List.{List, [], ◌∷◌}
use Prim.Native.Nat.{ℕ, zero, suc, ◌≤◌, ◌<◌}
use lib.ListN.{length, get_or}
use Rattle.composing.specs.Text.{ascii}
use Rattle.scanning.specs.Parts.{among, before, until, past}
use Rattle.cells.proofs.CellWalk.{pieces_first, pieces_last, pieces_more, after_past}
use Rattle.sheet.specs.Sheet.{lines}

abbrev pub ends : ℕ → Bool
ends = among (ascii "\n")

-- the first line is the one, or it is sought further, or there is none
module _ (p : List ℕ → Bool) (text : List ℕ) where
  pub first_here : p (until ends text) ≡ true → before p (lines text) ≡ 0
  unfolding before
  first_here h = rw (pieces_first ends text, h)

  module _ (no_line : p (until ends text) ≡ false) where
    pub first_later : length (until ends text) < length text → before p (lines text) ≡ suc (before p (lines (past ends text)))
    unfolding before
    first_later h = rw (pieces_more ends text h, no_line)

    pub first_none : length text ≤ length (until ends text) → before p (lines text) ≡ 1
    unfolding before
    first_none h = rw (pieces_last ends text h, no_line)

-- the first line, and one after it
pub line_first : (text : List ℕ) → get_or (lines text) 0 [] ≡ until ends text
line_first text = rw (pieces_first ends text)

none_line : (n : ℕ) → get_or {A = List ℕ} [] n [] ≡ get_or ([] ∷ []) n []
none_line zero = refl
none_line (suc n) = refl

pub line_later : (text : List ℕ) (n : ℕ) → get_or (lines text) (suc n) [] ≡ get_or (lines (past ends text)) n []
line_later text n = ap (λ (ls : List (List ℕ)). get_or ls (suc n) []) (pieces_first ends text) ∙ after_past ends (λ (ls : List (List ℕ)). get_or ls n []) (none_line n) text
