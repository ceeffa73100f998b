-- The spaces for which there is room are filled in one piece (put_piece). Assumes nothing.
use Rattle.std.proofs.Common.{rules}
use mathlib.Core.Path.{◌≡◌, ◌∙◌}
use Prim.Native.Nat.{◌-◌, ◌+◌}
use native.Mathlib.Omega.{arith}
use Rattle.std.specs.Prelude.{min, length, replicate}
use Rattle.composing.specs.Text.{spaces}
use Rattle.composing.proofs.Puts.{put_piece, put_no_room}
use Rattle.composing.proofs.Decimals.{spaces_taken, spaces_length}
use Rattle.composing.proofs.put_spaces.Goals as goal

pub returns-then-at-end : goal.returns-then-at-end
returns-then-at-end c =
    let n = spaces_length c.args.n in
    let e : c.end_of-end.result ≡ c.args.at + min (length (spaces c.args.n)) (length c.args.out.now - c.args.at) = rw n c.end_of-end.ensures in
    put_piece c.args.out.now (spaces c.args.n) _ c.args.at c.end_of-end.result e c.if-at-end.true
    (let h = c.fill.ensures.after in
    let f : c.fill.new.self ≡ replicate (c.end_of-end.result - c.args.at) 32 = search rules in
    f ∙ spaces_taken (c.end_of-end.result - c.args.at) c.args.n (omega (arith, c.end_of-end.ensures)))

pub returns-else-at-end : goal.returns-else-at-end
returns-else-at-end c =
    let n = spaces_length c.args.n in
    put_no_room c.args.out.now (spaces c.args.n) c.args.at c.end_of-end.result (rw n c.end_of-end.ensures) c.if-at-end.false
