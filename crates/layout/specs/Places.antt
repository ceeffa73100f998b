-- The bit places of a record's rows, as the code holds them. Assumes nothing.
use Rattle.std.specs.Prelude.{ℕ, map, take}
use Rattle.rules.specs.Lists.{total}
use Rattle.rules.specs.Record.{bits_of, layout, kinds_of, cells, bit_count}
use Rattle.layout.specs.declared.Places.{Places}

-- the bit place at which row i of the layout starts
unfoldable pub start_of : ℕ → ℕ → ℕ
start_of k i = total (map bits_of (kinds_of (take i (layout k))))

unfoldable pub places_of : ℕ → Places
places_of k = record {
  cells = cells k;
  increments = start_of k 2;
  indices = start_of k 3;
  reporting = start_of k 4;
  weight = start_of k 5;
  ulae = start_of k 6;
  tail = start_of k 7;
  end = bit_count k;
}
