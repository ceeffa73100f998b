-- The bytes of the line (line_part) and the line feed. Assumes nothing.
use native.Mathlib.Omega.{arith}
use mathlib.Core.Path.{ap}
use Prim.Native.Nat.{◌*◌}
use Rattle.composing.proofs.Puts.{put_append, put_same}
use Rattle.hexadecimal.specs.Hexadecimal.{hex_of, hex_line}
use Rattle.hexadecimal.proofs.Digits.{line_part}
use borrow.Author.Rules.{rules}
use Rattle.hexadecimal.proofs.put_hex_line.Statement.{statement}
use Rattle.hexadecimal.proofs.put_hex_line.Tie as tie

returns : tie.Need-returns
unfolding hex_line
returns c =
    let s = c.before.before.before.before.before.before.before.before.before.before.before.before in
    let part = line_part s.args.bytes.now (32 * s.args.m) c.before.before.before.before.before.before.before.before.before.line_stop-stop.result (omega (arith, s.requires)) c.before.before.before.before.before.before.before.before.before.line_stop-stop.ensures in
    put_append (put_same (ap hex_of part) c.before.before.before.before.before.before.put_hex-end.ensures) c.before.before.put_byte.ensures

pub put_hex_line_spec : {M : Type 1} → statement M
put_hex_line_spec =
    tie.close
    (tie.spec
    (λ c. search rules)
    (λ c κs. search rules)
    (λ c. search rules)
    (λ c. search rules)
    (λ c. search rules)
    (λ c κs. search rules)
    (λ c κs. search rules)
    (λ c. search rules)
    returns)
