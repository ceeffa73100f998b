-- The buffer of a hindsight run's comma-separated values, longer than any of them. Assumes nothing.
use Rattle.std.specs.Prelude.{ℕ}

abbrev pub most_hindsight_csv : ℕ
most_hindsight_csv = 196608
