-- The spaces that are left, and the number (put_at_right). Assumes nothing.
use mathlib.Core.Path.{ap, ◌∙◌}
use Prim.Native.Nat.{ℕ, ◌-◌}
use Rattle.composing.specs.Text.{decimal}
use Rattle.composing.proofs.Decimals.{put_at_right}
use borrow.Author.Rules.{rules}
use Rattle.number_lengths.proofs.put_right_decimal.Statement.{statement}
use Rattle.number_lengths.proofs.put_right_decimal.Tie as tie

decimal-length-requires : tie.Need-decimal_length-requires
decimal-length-requires c κs = search rules

left-of-requires : tie.Need-left_of-requires
left-of-requires c κs = search rules

put-spaces-requires : tie.Need-put_spaces-start-requires
put-spaces-requires c κs = search rules

put-decimal-requires : tie.Need-put_decimal-requires
put-decimal-requires c κs = search rules

same_length : tie.Need-shape_of-out
same_length c = search rules

returns : tie.Need-returns
returns c =
    let s = c.before.before.before.before.before.before.before.before.before.before.before in
    put_at_right s.args.w (decimal s.args.n) (c.before.before.before.before.before.before.before.left_of.ensures ∙ ap (λ (m : ℕ). s.args.w - m) c.before.before.before.before.before.before.before.before.decimal_length.ensures)
    c.before.before.before.before.before.before.put_spaces-start.ensures c.before.before.put_decimal.ensures

pub put_right_decimal_spec : {M : Type 1} → statement M
put_right_decimal_spec =
    tie.close
    (tie.spec
    decimal-length-requires
    left-of-requires
    put-spaces-requires
    put-decimal-requires
    same_length
    returns)
