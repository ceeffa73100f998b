-- The number, and the byte. Assumes nothing.
use borrow.Author.Rules.{rules}
use mir.Facts.{to_z-of_z}
use Rattle.composing.proofs.Puts.{put_append}
use Rattle.list_text.specs.EntryLines.{entry_text}
use Rattle.list_text.proofs.put_entry.Statement.{statement}
use Rattle.list_text.proofs.put_entry.Tie as tie

returns : tie.Need-returns
unfolding entry_text
returns c =
    let put = c.before.before.before.before.before.before in
    let kept = to_z-of_z put.before.before.before.ranges.z in
    put_append (rw kept at put.put_integer-end.ensures) c.before.before.put_byte.ensures

pub put_entry_spec : {M : Type 1} → statement M
put_entry_spec = tie.close (tie.spec (λ c κs. search rules) (λ c κs. search rules) (λ c. search rules) returns)
