-- The buffer of a history's comma-separated values, longer than any of them. Assumes nothing.
use Rattle.std.specs.Prelude.{ℕ}

abbrev pub most_history_csv : ℕ
most_history_csv = 196608
