-- How long the sections of the payments and of the chain ladder are at most, and the table of the increments. Assumes nothing.
use mathlib.Core.Bool.{Bool}
use mathlib.Core.List.{List}
use Prim.Native.Nat.{ℕ, ◌≤◌, ◌<◌}
use native.Mathlib.Omega.{arith}
use lib.IntN.{ℤ}
use lib.ListN.{length, length-append}
use Rattle.lines.proofs.Longest.{longest_from}
use Rattle.parts.proofs.Lengths.{section_end_most}
use Rattle.table_lengths.proofs.Most.{table_most}
use Rattle.payment_section.specs.Payments.{payment_table, payments_section}
use Rattle.ladder_section.specs.Ladder.{ladder_table, ladder_section}
use Rattle.increment_table.specs.Increments.{increment_table}
use Rattle.section_lengths.proofs.Tables.{triangle_most, summed_most}
use Rattle.section_lengths.proofs.Opened.{opened_most}

module _ (html : Bool) (first k : ℕ) (xs : List ℤ) (h : k < 16) where
  pub increment_table_most : length (increment_table html first k xs) ≤ 31000
  unfolding increment_table table_most longest_from
  increment_table_most = summed_most html _ _ first k _ _ _ 17 31000 h (omega arith) (omega arith)

  payment_table_most : length (payment_table html first k xs) ≤ 32500
  unfolding payment_table table_most longest_from
  payment_table_most = summed_most html _ _ first k _ _ _ 18 32500 h (omega arith) (omega arith)

  pub payments_most : length (payments_section html first k xs) ≤ 33000
  unfolding payments_section
  payments_most =
      opened_most html _ _ _ 32600 33000 (simp length-append (omega (arith, payment_table_most, section_end_most html))) (omega arith)

  ladder_table_most : length (ladder_table html first k xs) ≤ 29000
  unfolding ladder_table table_most longest_from
  ladder_table_most = triangle_most html _ _ first k _ _ 16 29000 h (omega arith) (omega arith)

  pub ladder_most : length (ladder_section html first k xs) ≤ 30000
  unfolding ladder_section
  ladder_most =
      opened_most html _ _ _ 29100 30000 (simp length-append (omega (arith, ladder_table_most, section_end_most html))) (omega arith)
