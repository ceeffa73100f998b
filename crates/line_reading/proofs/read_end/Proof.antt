-- By whether every line due was there. Assumes nothing.
use mathlib.Core.Path.{◌≡◌, refl, sym, ap, ◌∙◌}
use mathlib.Core.List.{[]}
use borrow.Author.Tests.{eq-eqb, ne_eqb}
use native.Mathlib.Omega.{arith}
use lib.ListN.{take, length-take}
use Rattle.composing.proofs.Puts.{put_none}
use Rattle.sheet.specs.Sheet.{read_lines, last_year_in}
use Rattle.sheet.specs.Table.{lines_in}
use Rattle.line_reading.proofs.LinesRead.{reads_kept}
use Rattle.line_reading.proofs.read_end.Statement.{statement}
use Rattle.line_reading.proofs.read_end.Tie as tie

last-year-requires : tie.Need-last_year-k-requires
last-year-requires c κs = omega (arith, length-take c.args.f.count c.args.list.now, c.requires.1.size)

lines-in-requires : tie.Need-lines_in-requires
lines-in-requires c κs = rw c.last_year-k.ensures c.before.requires.1.few

-- how many lines there are
count : (l : tie.After-lines_in)
    → l.lines_in.result ≡ lines_in l.before.before.args.history (last_year_in (take l.before.before.args.f.count l.before.before.args.list.now))
count l = l.lines_in.ensures ∙ ap (lines_in l.before.before.args.history) l.before.last_year-k.ensures

returns : tie.Need-returns-then-lines_in-f
unfolding read_lines
returns c =
    let s = c.before.before.before.before in
    let f = s.args.f in
    let vs = take f.count s.args.list.now in
    λ w. rw (eq-eqb f.place (lines_in s.args.history (last_year_in vs)) (sym c.if-lines_in-f.true ∙ count c.before.before))
    (reads_kept s.args.list.now 0 f.line f.place 0 f.count [] refl s.requires.1.size (put_none w 0))

returns-2 : tie.Need-returns-else-lines_in-f
unfolding read_lines
returns-2 c =
    let s = c.before.before.before.before in
    let f = s.args.f in
    let vs = take f.count s.args.list.now in
    λ w. rw (ne_eqb f.place (lines_in s.args.history (last_year_in vs)) (λ e. c.if-lines_in-f.false (sym (e ∙ sym (count c.before.before)))))
    (reads_kept s.args.list.now 5 f.line f.place 0 f.count [] refl s.requires.1.size (put_none w 0))

pub read_end_spec : {M : Type 1} → statement M
read_end_spec = tie.close (tie.spec last-year-requires lines-in-requires returns returns-2)
