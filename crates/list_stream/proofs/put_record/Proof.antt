-- The part of the stream is the record. Assumes nothing.
use borrow.Author.Rules.{rules}
use mathlib.Core.Path.{◌≡◌, ap}
use native.Mathlib.Omega.{arith}
use Prim.Native.Nat.{ℕ, ◌+◌, ◌-◌}
use lib.ListN.{take, drop}
use Rattle.composing.proofs.Puts.{put_same}
use Rattle.list_runs.specs.Runs.{list_row}
use Rattle.list_stream.proofs.put_record.Statement.{statement}
use Rattle.list_stream.proofs.put_record.Tie as tie

returns : tie.Need-returns
returns c =
    let s = c.before.before.before.before.before.before.before in
    let size : s.args.p + 2 + s.args.n - (s.args.p + 2) ≡ s.args.n = omega arith in
    put_same (ap (λ (m : ℕ). list_row s.args.year (take m (drop (s.args.p + 2) s.args.s.now))) size) c.before.before.put_list_row.ensures

pub put_record_spec : {M : Type 1} → statement M
put_record_spec =
    tie.close
    (tie.spec
    (λ c. search rules)
    (λ c. search rules)
    (λ c. search rules)
    (λ c. search rules)
    (λ c. search rules)
    (λ c κs. search rules)
    (λ c. search rules)
    returns)
