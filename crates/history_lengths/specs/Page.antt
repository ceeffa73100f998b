-- The buffer of a history's page, longer than any of them. Assumes nothing.
use Rattle.std.specs.Prelude.{ℕ}

abbrev pub most_history_page : ℕ
most_history_page = 524288
