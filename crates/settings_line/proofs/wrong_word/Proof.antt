-- The loop's invariant: the words that were met are whole numbers, and the others are left. Assumes nothing.
use mathlib.Core.Path.{◌≡◌, sym, ap, ◌∙◌}
use mathlib.Core.List.{List}
use Prim.Native.Nat.{ℕ, ◌+◌, ◌≤◌, ◌<◌}
use native.Mathlib.Omega.{arith}
use lib.ListN.{length}
use Rattle.scanning.specs.Parts.{until}
use Rattle.scanning.proofs.Parts.{until_most}
use Rattle.settings_line.specs.Settings.{separates, words_of, wrong_word}
use Rattle.settings_line.proofs.Words.{words_in, words_most, past_length, wrong_from, is_wrong, wrong_start, wrong_here, wrong_more, wrong_none}
use borrow.Author.Rules.{rules}
use Rattle.settings_line.proofs.wrong_word.Statement.{statement}
use Rattle.settings_line.proofs.wrong_word.Tie as tie

abbrev invariant-loop : tie.invariant-loop-rest
invariant-loop line rest₀ n₀ rest n = (wrong_word line ≡ wrong_from n (words_of rest)) × (n + length rest ≤ length line)

abbrev decreases-loop : tie.decreases-loop-rest
decreases-loop line rest₀ n₀ rest n = length rest

loop-holds : tie.Need-loop-rest-init invariant-loop decreases-loop
loop-holds c = (wrong_start c.before.args.line.now, omega arith)

-- what is left, and what was said of its first piece
abbrev rest : tie.After-is_wrong invariant-loop decreases-loop → List ℕ
rest w = w.before.before.before.before.loop-rest.rest.now

said : (w : tie.After-is_wrong invariant-loop decreases-loop) → is_wrong (until separates (rest w)) ≡ w.is_wrong.result
said w = sym (w.is_wrong.ensures ∙ ap is_wrong w.before.until-piece.ensures)

cut : (w : tie.After-is_wrong invariant-loop decreases-loop) → length w.before.until-piece.result.now ≡ length (until separates (rest w))
cut w = ap length w.before.until-piece.ensures

add-result : tie.Need-overflow_add-result invariant-loop decreases-loop
add-result c =
    let w = c.before.before.before.before.before in
    omega (arith, w.loop-rest.invariant.1)

returns : tie.Need-returns-then-is_wrong invariant-loop decreases-loop
returns c =
    let w = c.before in
    let l = w.before.before.before.before.loop-rest in
    sym (l.invariant.0 ∙ wrong_here l.n (rest w) (said w ∙ c.if-is_wrong.true))

returns-2 : tie.Need-returns-then-piece-rest invariant-loop decreases-loop
returns-2 c =
    let w = c.before.before in
    let l = w.before.before.before.before.loop-rest in
    sym (l.invariant.0 ∙ wrong_none l.n (rest w) (said w ∙ c.before.if-is_wrong.false) (omega (arith, cut w, c.if-piece-rest.true)))

-- another piece follows
more : (e : tie.Else-piece-rest invariant-loop decreases-loop) → length (until separates (rest e.before.before)) < length (rest e.before.before)
more e = omega (arith, cut e.before.before, e.if-piece-rest.false, until_most separates (rest e.before.before))

-- its words
counted : (v : tie.After-words_in-n invariant-loop decreases-loop) → v.words_in-n.result ≡ length (words_in (until separates (rest v.before.before.before)))
counted v = v.words_in-n.ensures ∙ ap (λ (p : List ℕ). length (words_in p)) v.before.before.before.before.until-piece.ensures

add-n : tie.Need-overflow_add-n invariant-loop decreases-loop
add-n c =
    let w = c.before.before.before in
    omega (arith, w.before.before.before.before.loop-rest.invariant.1, counted c, words_most (until separates (rest w)), more c.before)

loop-less : tie.Need-loop-rest-smaller invariant-loop decreases-loop
loop-less c =
    let e = c.before.before.before in
    rw c.past-next.ensures (omega (arith, past_length (rest e.before.before.before) (more e.before)))

loop-again : tie.Need-loop-rest-preserved invariant-loop decreases-loop
loop-again c =
    let v = c.before.before in
    let e = v.before.before in
    let w = e.before.before in
    let l = w.before.before.before.before.loop-rest in
    rw (c.past-next.ensures, counted v.before) (
      l.invariant.0 ∙ wrong_more l.n (rest w) (said w ∙ e.before.if-is_wrong.false) (more e),
      omega (arith, l.invariant.1, words_most (until separates (rest w)), past_length (rest w) (more e)),
    )

pub wrong_word_spec : {M : Type 1} → statement M
wrong_word_spec =
    tie.close
    (tie.spec
    invariant-loop
    decreases-loop
    loop-holds
    (λ c κs. search rules)
    (λ c κs. search rules)
    add-result
    returns
    returns-2
    (λ c κs. search rules)
    add-n
    (λ c κs. search rules)
    loop-less
    loop-again)
