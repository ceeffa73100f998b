-- The sums, and then the payments that are lost (put_append). Assumes nothing.
use mir.Facts.{to_z-of_z}
use Rattle.composing.proofs.Puts.{put_append}
use Rattle.fit_words.specs.FitWords.{fit_words}
use borrow.Author.Rules.{rules}
use Rattle.fit_words.proofs.put_fit_words.Statement.{statement}
use Rattle.fit_words.proofs.put_fit_words.Tie as tie

returns : tie.Need-returns
unfolding fit_words
returns c =
    let b = c.before.before in
    let a = b.before.before.before.before in
    let s = a.before.before.before in
    put_append (rw (to_z-of_z s.ranges.averages, to_z-of_z s.ranges.gaps) at a.put_fit_sums-end.ensures) b.put_lost_payments.ensures

pub put_fit_words_spec : {M : Type 1} → statement M
put_fit_words_spec = tie.close (tie.spec (λ c κs. search rules) (λ c κs. search rules) (λ c. search rules) returns)
