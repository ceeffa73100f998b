-- The buffer of a page of a hindsight run, longer than any of them. Assumes nothing.
use Rattle.std.specs.Prelude.{ℕ}

abbrev pub most_hindsight_page : ℕ
most_hindsight_page = 65536
