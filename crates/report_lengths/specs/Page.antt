-- The buffer of the report's programs, longer than any page, and the longest input that they read. Assumes nothing.
use Rattle.std.specs.Prelude.{ℕ}

abbrev pub most_page : ℕ
most_page = 393216

abbrev pub most_input : ℕ
most_input = 4096
