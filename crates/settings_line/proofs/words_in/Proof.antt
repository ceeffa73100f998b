-- An empty piece is no word, and any other is one. Assumes nothing.
use native.Mathlib.Omega.{arith}
use Rattle.settings_line.proofs.Words.{words_none, words_one}
use Rattle.settings_line.proofs.words_in.Statement.{statement}
use Rattle.settings_line.proofs.words_in.Tie as tie

returns : tie.Need-returns-then-piece-eq0
returns c = rw (words_none c.before.args.piece.now c.if-piece-eq0.true)

returns-2 : tie.Need-returns-else-piece-eq0
returns-2 c = rw (words_one c.before.args.piece.now (omega (arith, c.if-piece-eq0.false)))

pub words_in_spec : {M : Type 1} → statement M
words_in_spec = tie.close (tie.spec returns returns-2)
