-- The lengths that document 01 and request 3 of document 02 name for k = 1 and k = 15, computed from the layout, and those of the longest history (request 11) and of the longest report of a hindsight run (request 12).
-- Assumes nothing.
use mathlib.Core.Path.{◌≡◌, refl}
use Rattle.rules.specs.Lists.{total}
use Rattle.rules.specs.History.{most_history, most_width, most_history_cells, most_history_entries, history_start, development_years, history_cells, position_count, history_count}
use Rattle.rules.specs.Hindsight.{most_settings, most_hindsight, setting_count, hindsight_count}
use Rattle.rules.specs.Record.{most_bytes, most_fields, cells, layout, kinds_of, widths, bit_count, byte_count, field_count}

pub two_years_lem : (bit_count 1 ≡ 357) × ((byte_count 1 ≡ 45) × (field_count 1 ≡ 14))
unfolding bit_count byte_count field_count widths layout kinds_of cells total
two_years_lem = (refl, (refl, refl))

pub sixteen_years : (bit_count 15 ≡ 6370) × ((byte_count 15 ≡ most_bytes) × (field_count 15 ≡ most_fields))
unfolding bit_count byte_count field_count widths layout kinds_of cells total
sixteen_years = (refl, (refl, refl))

-- at most 136 cells
pub most_cells : cells 15 ≡ 136
unfolding cells
most_cells = refl

-- a history of 64 years has 904 cells, and a window of 16 years over it 1,617 entries
pub most_history_lem : (history_cells most_history ≡ most_history_cells) × (history_count most_history most_width ≡ most_history_entries)
unfolding history_cells history_start development_years history_count position_count
most_history_lem = (refl, refl)

-- a report of eight settings of a record of sixteen years has 961 entries
pub most_hindsight_lem : hindsight_count 15 most_settings ≡ most_hindsight
unfolding hindsight_count setting_count
most_hindsight_lem = refl
