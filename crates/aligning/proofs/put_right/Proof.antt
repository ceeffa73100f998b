-- The spaces that are left, and the text (put_at_right). Assumes nothing.
use Rattle.composing.proofs.Decimals.{put_at_right}
use borrow.Author.Rules.{rules}
use Rattle.aligning.proofs.put_right.Statement.{statement}
use Rattle.aligning.proofs.put_right.Tie as tie

left-of-requires : tie.Need-left_of-requires
left-of-requires c κs = search rules

put-spaces-requires : tie.Need-put_spaces-start-requires
put-spaces-requires c κs = search rules

put-bytes-requires : tie.Need-put_bytes-requires
put-bytes-requires c κs = search rules

same_length : tie.Need-shape_of-out
same_length c = search rules

returns : tie.Need-returns
returns c =
    let s = c.before.before.before.before.before.before.before.before.before.before.before in
    put_at_right s.args.w s.args.text.now c.before.before.before.before.before.before.before.left_of.ensures c.before.before.before.before.before.before.put_spaces-start.ensures c.before.before.put_bytes.ensures

pub put_right_spec : {M : Type 1} → statement M
put_right_spec =
    tie.close
    (tie.spec left-of-requires put-spaces-requires put-bytes-requires same_length returns)
