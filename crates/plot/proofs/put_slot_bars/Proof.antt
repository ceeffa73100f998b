-- By the bars of a slot, one after another. Assumes nothing.
use mir.Syntax.{w64}
use mir.Facts.{to_z-of_z}
use borrow.Author.Tests.{eq-eqb, ne_eqb}
use borrow.Author.Rules.{rules, sfits_of}
use Rattle.composing.proofs.Puts.{put_append}
use Prim.Native.Nat.{◌+◌}
use Rattle.drawing.specs.Drawing.{bar}
use Rattle.figure_caption.specs.Caption.{dark}
use Rattle.plot.specs.Plot.{first_bar, second_bar, left, slot_bars}
use Rattle.plot.proofs.put_slot_bars.Statement.{statement}
use Rattle.plot.proofs.put_slot_bars.Tie as tie

put-bar-requires : tie.Need-put_bar-end-requires
put-bar-requires c κs =
    let s = c.before.before.before.before.before.before.before in
    let kept = to_z-of_z {w = w64} {z = first_bar s.args.values.now s.args.s s.args.c} (sfits_of c.put_bar-arg-then-s-eq2-1.given) in
    rw kept (s.requires.0.1, (s.requires.1.0.first_most, s.requires.1.1.first_reached))

shared-slice-copy-out-put-bar-2 : tie.Need-bounds-values-p-then-s-eq2
shared-slice-copy-out-put-bar-2 c = c.before.before.before.before.before.before.before.before.before.before.before.requires.1.0.second_inside c.before.before.before.before.before.before.if-s-eq2.true

put-bar-requires-2 : tie.Need-put_bar-requires
put-bar-requires-2 c κs =
    let s = c.before.before.before.before.before.before.before.before.before.before.before.before in
    let kept = to_z-of_z {w = w64} {z = second_bar s.args.values.now s.args.s s.args.c} (sfits_of c.put_bar-arg-then-s-eq2-3-1.given) in
    rw kept (s.requires.0.1, (s.requires.1.0.second_most c.before.before.before.before.before.before.before.if-s-eq2.true, s.requires.1.1.second_reached c.before.before.before.before.before.before.before.if-s-eq2.true))

put-bar-requires-3 : tie.Need-put_bar-requires-else-s-eq2
put-bar-requires-3 c κs =
    let s = c.before.before.before.before.before.before.before.before in
    let kept = to_z-of_z {w = w64} {z = first_bar s.args.values.now s.args.s s.args.c} (sfits_of c.put_bar-arg-else-s-eq2-2-1.given) in
    rw kept (s.requires.0.1, (s.requires.1.0.first_most, s.requires.1.1.first_reached))

returns : tie.Need-returns-then-s-eq2
unfolding slot_bars
returns c =
    let s = c.before.before.before.before.before.before.before.before.before.before.before.before.before.before.before in
    let kept = to_z-of_z {w = w64} {z = first_bar s.args.values.now s.args.s s.args.c} (sfits_of c.before.before.before.before.before.before.before.before.put_bar-arg-then-s-eq2-1.given) in
    let kept2 = to_z-of_z {w = w64} {z = second_bar s.args.values.now s.args.s s.args.c} (sfits_of c.before.before.before.put_bar-arg-then-s-eq2-3-1.given) in
    let dark-bar = bar s.args.scale dark (left s.args.c + 2) 13 s.args.label s.args.d (first_bar s.args.values.now s.args.s s.args.c) in
    rw (eq-eqb s.args.s.bars 2 c.before.before.before.before.before.before.before.before.before.before.if-s-eq2.true) (put_append {xs = dark-bar} (rw kept at c.before.before.before.before.before.before.before.put_bar-end.ensures) (rw kept2 at c.before.before.put_bar.ensures))

returns-2 : tie.Need-returns-else-s-eq2
unfolding slot_bars
returns-2 c =
    let s = c.before.before.before.before.before.before.before.before.before.before.before in
    let kept = to_z-of_z {w = w64} {z = first_bar s.args.values.now s.args.s s.args.c} (sfits_of c.before.before.before.put_bar-arg-else-s-eq2-2-1.given) in
    rw (ne_eqb s.args.s.bars 2 c.before.before.before.before.before.before.if-s-eq2.false) (rw (kept, c.before.before.before.before.before.mark_of-mark.ensures) at c.before.before.put_bar-else-s-eq2.ensures)

pub put_slot_bars_spec : {M : Type 1} → statement M
put_slot_bars_spec =
    tie.close
    (tie.spec
    (λ c. search rules)
    (λ c. search rules)
    (λ c. search rules)
    (λ c. search rules)
    (λ c. search rules)
    (λ c. search rules)
    (λ c. search rules)
    put-bar-requires
    (λ c. search rules)
    (λ c. search rules)
    (λ c. search rules)
    shared-slice-copy-out-put-bar-2
    put-bar-requires-2
    (λ c κs. search rules)
    (λ c. search rules)
    (λ c. search rules)
    (λ c. search rules)
    put-bar-requires-3
    (λ c. search rules)
    returns
    (λ c. search rules)
    returns-2)
