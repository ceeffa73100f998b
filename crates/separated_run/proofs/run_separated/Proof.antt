-- Questions 18 and 19, and what follows the tail, are asked in turn, and each answer is that of a segment of the questions. Assumes nothing.
use borrow.Author.Rules.{rules}
use native.Mathlib.Omega.{arith}
use mathlib.Core.Path.{refl, sym, ◌∙◌}
use Rattle.rules.specs.Lists.{every}
use Rattle.rules.specs.Record.{Figures}
use Rattle.rules.specs.Tail.{tail_questions}
use Rattle.rules.specs.Results.{first_tail_average_of}
use Rattle.rules.specs.Engine.{last_questions, later_questions}
use Rattle.reserving.specs.Stages.{Tailed, filled}
use Rattle.answering.proofs.Answering.{first_refused_lem, later}
use Rattle.separated_run.proofs.Tails.{tails_are}
use Rattle.separated_run.proofs.run_separated.Statement.{statement}
use Rattle.separated_run.proofs.run_separated.Tie as tie

abbrev F : tie.Start → Figures
F s = s.args.figures.now

-- questions 18 and 19
carry-tail-requires : tie.Need-carry_tail-carried-requires
carry-tail-requires c κs =
    let good = c.before.requires.0.sound in
    record {
      years = record { few = good.few; exposures = good.exposures_most; first_index = good.first_index; indices = good.indices };
      tail = good.tail;
      claims = (good.exposures 0 (omega arith)).0;
    }

abbrev start : tie.After-carry_tail-carried → tie.Start
start c = c.before.before

returns : tie.Need-returns-then-carried-ne-ACCEPTED
unfolding later_questions first_tail_average_of
returns c =
    let at = c.before in
    let s = start at in
    let f = F s in
    let n = at.carry_tail-carried.result in
    first_refused_lem (filled s.args.year f s.args.out.now) s.args.out.now (tail_questions f.k (first_tail_average_of f) f.indices) _ n (sym at.carry_tail-carried.ensures.0) c.if-carried-ne-ACCEPTED.true

-- the tail is carried on
tailed-is : (c : tie.Else-carried-ne-ACCEPTED) → Tailed (F (start c.before)) c.before.carry_tail-carried.new.tails
unfolding first_tail_average_of
tailed-is c =
    let at = c.before in
    let s = start at in
    tails_are (F s) s.requires.0.sound.few _ at.carry_tail-carried.ensures.1 (sym at.carry_tail-carried.ensures.0 ∙ c.if-carried-ne-ACCEPTED.false)

finish-requires : tie.Need-finish-requires
finish-requires c κs =
    let one = c.before.before in
    let s = start one.before in
    (s.requires.0, (tailed-is one, s.requires.1))

same_length : tie.Need-shape_of-out
same_length c = search rules

returns-2 : tie.Need-returns
unfolding later_questions tail_questions every
returns-2 c =
    let call = c.before in
    let one = call.before.before.before in
    let s = start one.before in
    let f = F s in
    later (filled s.args.year f s.args.out.now) s.args.out.now (tail_questions f.k (first_tail_average_of f) f.indices) (last_questions s.args.year f) _ _ refl (tailed-is one).passed call.finish.ensures

pub run_separated_spec : {M : Type 1} → statement M
run_separated_spec =
    tie.close
    (tie.spec
    carry-tail-requires
    returns
    finish-requires
    same_length
    returns-2)
