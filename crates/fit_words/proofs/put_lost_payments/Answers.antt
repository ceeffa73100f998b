-- The number and the words, where some are lost. Assumes nothing.
use Rattle.composing.proofs.Puts.{put_five}
use borrow.Author.Tests.{ne_eqb}
use Rattle.fit_words.specs.FitWords.{lost_payments}
use Rattle.fit_words.proofs.put_lost_payments.Goals as goal

pub returns-else-lost-eq0 : goal.returns-else-lost-eq0
unfolding lost_payments
returns-else-lost-eq0 c =
    rw (ne_eqb _ _ c.if-lost-eq0.false) (put_five c.put_either-a.ensures c.put_decimal-b.ensures c.put_either-c.ensures c.put_bytes-d.ensures c.put_either.ensures)
