-- What is wrong with a line, from what the walks over its cells say. Assumes nothing.
use mathlib.Core.Path.{◌≡◌, sym, ◌∙◌}
use mathlib.Core.Bool.{true, false}
use mathlib.Core.List.{List}
use Prim.Native.Nat.{ℕ, ◌+◌}
use native.Mathlib.Numerals.{add-one}
use borrow.Author.Tests.{eq-eqb, ne_eqb}
use lib.ListN.{length}
use Rattle.rules.specs.Lists.{every}
use Rattle.scanning.specs.Parts.{fails, before, same_text_of}
use Rattle.scanning.specs.Numbers.{is_number}
use Rattle.cells.specs.Cells.{label_of, cells_of, is_within}
use Rattle.cells.proofs.CellLines.{before_all}
use Rattle.sheet.specs.declared.Due.{Due}
use Rattle.sheet.specs.Table.{label_due}
use Rattle.sheet.specs.Sheet.{wrong, wrong_in}

module _ (d : Due) (line : List ℕ) where
  -- another label
  pub wrong_label : same_text_of (label_of line) (label_due d) ≡ false → wrong 1 0 ≡ wrong_in d line
  unfolding wrong_in
  wrong_label h = rw h

  module _ (same : same_text_of (label_of line) (label_due d) ≡ true) (a : ℕ) (f : a ≡ before (fails is_number) (cells_of line)) where
    -- a cell that is no number
    pub wrong_number : every is_number (cells_of line) ≡ false → wrong 2 (a + 1) ≡ wrong_in d line
    unfolding wrong_in
    wrong_number h = rw (same, h, add-one a, f)

    module _ (numbers : every is_number (cells_of line) ≡ true) where
      count : length (cells_of line) ≡ a
      count = sym (f ∙ before_all is_number (cells_of line) numbers)

      -- another count
      pub wrong_count : (a ≡ d.count → ⊥) → wrong 3 a ≡ wrong_in d line
      unfolding wrong_in
      wrong_count h = rw (same, numbers, count, ne_eqb a d.count h)

      module _ (right : a ≡ d.count) where
        -- a number out of its range
        pub wrong_range : (b : ℕ) → b ≡ before (fails (is_within d.least d.most)) (cells_of line) → every (is_within d.least d.most) (cells_of line) ≡ false
            → wrong 4 (b + 1) ≡ wrong_in d line
        unfolding wrong_in
        wrong_range b g h = rw (same, numbers, count, eq-eqb a d.count right, h, add-one b, g)

        -- nothing
        pub wrong_none : every (is_within d.least d.most) (cells_of line) ≡ true → wrong 0 0 ≡ wrong_in d line
        unfolding wrong_in
        wrong_none h = rw (same, numbers, count, eq-eqb a d.count right, h)
