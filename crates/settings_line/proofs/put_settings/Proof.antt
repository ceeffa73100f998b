-- The loop's invariant: with the settings of the words that are left at their places, those of the line are there. Assumes nothing.
use mathlib.Core.Path.{◌≡◌, refl, sym, ap, ◌∙◌}
use mathlib.Core.List.{List, map}
use Prim.Native.Nat.{ℕ, ◌+◌, ◌≤◌, ◌<◌}
use native.Mathlib.Omega.{arith}
use lib.ListN.{length, length-append, length-map}
use lib.Seq.{sets}
use Rattle.scanning.specs.Numbers.{size_from}
use Rattle.scanning.specs.Parts.{until, past}
use Rattle.scanning.proofs.Parts.{until_most}
use Rattle.settings_line.specs.Settings.{most_words, separates, words_of, settings_of}
use Rattle.settings_line.proofs.Words.{words_in, words_few, past_length, words_first, words_more, settings_count, settings_last, settings_more}
use borrow.Author.Rules.{rules}
use Rattle.settings_line.proofs.put_settings.Statement.{statement}
use Rattle.settings_line.proofs.put_settings.Tie as tie

abbrev invariant-loop : tie.invariant-loop-rest
invariant-loop line settings₀ rest₀ n₀ settings rest n =
    (length (words_of line) ≡ n + length (words_of rest)) × (sets settings₀ 0 (settings_of line) ≡ sets settings n (settings_of rest))

abbrev decreases-loop : tie.decreases-loop-rest
decreases-loop line settings₀ rest₀ n₀ settings rest n = length rest

loop-holds : tie.Need-loop-rest-init invariant-loop decreases-loop
loop-holds c = (omega arith, refl)

-- what is left, and its first piece
abbrev rest : tie.After-until-piece invariant-loop decreases-loop → List ℕ
rest u = u.before.before.before.loop-rest.rest.now

-- the words of the first piece and those before it are no more than a line has
few : (u : tie.After-until-piece invariant-loop decreases-loop) → u.before.before.before.loop-rest.n + length (words_in (until separates (rest u))) ≤ most_words
few u =
    let line = u.before.before.before.before.before.args.line.now in
    omega (arith, u.before.before.before.loop-rest.invariant.0, words_first (rest u), words_few (length line) line (omega arith), u.before.before.before.before.before.requires)

put-word-requires : tie.Need-put_word-end-requires invariant-loop decreases-loop
put-word-requires c κs = rw c.before.until-piece.ensures (few c.before)

-- the first piece's words, put
put : (p : tie.After-put_word-end invariant-loop decreases-loop) → (p.put_word-end.result ≡ p.before.before.before.before.before.loop-rest.n + length (words_in (until separates (rest p.before.before))))
    × (p.put_word-end.new.settings ≡ sets p.before.before.before.before.before.loop-rest.settings p.before.before.before.before.before.loop-rest.n (map (size_from 0) (words_in (until separates (rest p.before.before)))))
put p = rw p.before.before.until-piece.ensures at p.put_word-end.ensures

cut : (u : tie.After-until-piece invariant-loop decreases-loop) → length u.until-piece.result.now ≡ length (until separates (rest u))
cut u = ap length u.until-piece.ensures

returns : tie.Need-returns-then-piece-rest invariant-loop decreases-loop
returns c =
    let p = c.before in
    let u = p.before.before in
    let l = u.before.before.before in
    let line = l.before.before.args.line.now in
    let end = settings_last (rest u) (omega (arith, cut u, c.if-piece-rest.true)) in (
      omega (arith, (put p).0, l.loop-rest.invariant.0, settings_count line, settings_count (rest u), ap length end, length-map (words_in (until separates (rest u))) (size_from 0)),
      (omega (arith, (put p).0, few u), (put p).1 ∙ sym (l.loop-rest.invariant.1 ∙ ap (sets l.loop-rest.settings l.loop-rest.n) end)),
    )

-- another piece follows
more : (e : tie.Else-piece-rest invariant-loop decreases-loop) → length (until separates (rest e.before.before.before)) < length (rest e.before.before.before)
more e = let u = e.before.before.before in omega (arith, cut u, e.if-piece-rest.false, until_most separates (rest u))

loop-less : tie.Need-loop-rest-smaller invariant-loop decreases-loop
loop-less c =
    let e = c.before.before in
    let u = e.before.before.before in
    rw c.past-next.ensures (omega (arith, past_length (rest u.before) (more e.before)))

loop-again : tie.Need-loop-rest-preserved invariant-loop decreases-loop
loop-again c =
    let e = c.before.before in
    let p = e.before in
    let u = p.before.before.before in
    let l = u.before.before.before.loop-rest in
    let first = words_in (until separates (rest u)) in
    rw (c.past-next.ensures, (put p.before).0, (put p.before).1)
    (omega (arith, l.invariant.0, ap length (words_more (rest u) (more e.before)), length-append first (words_of (past separates (rest u)))), l.invariant.1 ∙ settings_more (rest u) l.settings l.n (more e.before))

pub put_settings_spec : {M : Type 1} → statement M
put_settings_spec =
    tie.close
    (tie.spec
    invariant-loop
    decreases-loop
    loop-holds
    (λ c κs. search rules)
    put-word-requires
    returns
    (λ c κs. search rules)
    loop-less
    loop-again)
