-- An empty piece is no word, and any other is one. Assumes nothing.
use mathlib.Core.Path.{refl, ap}
use native.Mathlib.Omega.{arith}
use lib.ListN.{length}
use Rattle.settings_line.proofs.Words.{words_none, words_one}
use borrow.Author.Rules.{rules}
use Rattle.settings_line.proofs.put_word.Statement.{statement}
use Rattle.settings_line.proofs.put_word.Tie as tie

returns : tie.Need-returns-then-piece-eq0
returns c = rw (words_none c.before.before.args.piece.now c.if-piece-eq0.true) (omega arith, refl)

element-write-settings : tie.Need-bounds-settings-at
element-write-settings c =
    let s = c.before.before.before.before in
    omega (arith, s.requires, ap length (words_one s.args.piece.now (omega (arith, c.before.before.if-piece-eq0.false))))

returns-2 : tie.Need-returns
returns-2 c =
    let s = c.before.before.before.before in
    rw (words_one s.args.piece.now (omega (arith, c.before.before.if-piece-eq0.false)), c.before.size_from.ensures.0) (refl, refl)

pub put_word_spec : {M : Type 1} → statement M
put_word_spec =
    tie.close
    (tie.spec returns (λ c κs. search rules) (λ c. search rules) element-write-settings (λ c. search rules) returns-2)
