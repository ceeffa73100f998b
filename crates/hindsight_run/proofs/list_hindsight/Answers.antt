-- The three outcomes (Outcomes). Assumes nothing.
use mathlib.Core.Path.{◌≡◌, sym, ap, ◌∙◌}
use native.Mathlib.Omega.{arith}
use lib.ListN.{length, take, replicate}
use lib.Seq.{length-sets}
use Rattle.rules.specs.Hindsight.{hindsight_into}
use Rattle.composing.proofs.Puts.{put_same}
use Rattle.settings_line.specs.Settings.{most_words, settings_of}
use Rattle.hindsight_run.specs.Listed.{refused_text, answer_of, wrong_text}
use Rattle.hindsight_run.proofs.Outcomes.{stored_settings, stored_first, wrong, refused, kept, listed, some_record, asked, filled}
use Rattle.hindsight_run.proofs.list_hindsight.Goals as goal
use Rattle.hindsight_run.proofs.list_hindsight.Goals.{After-put_settings-count, After-doonamurk_hindsight-answer}

-- the settings are stored, and as many as there are go to the call
long : (c : After-put_settings-count) → length c.put_settings-count.new.settings ≡ most_words
long c = ap length c.put_settings-count.ensures.1.1 ∙ length-sets (replicate most_words 0) 0 (settings_of c.args.line.now)

stored : (c : After-put_settings-count) → take c.put_settings-count.result c.put_settings-count.new.settings ≡ settings_of c.args.line.now
stored c =
    rw (c.put_settings-count.ensures.1.1, c.put_settings-count.ensures.0)
    (stored_settings (settings_of c.args.line.now) (omega (arith, c.put_settings-count.ensures.0, c.put_settings-count.ensures.1.0)))

-- what the call answers, and what it leaves
answered : (c : After-doonamurk_hindsight-answer) → take c.put_settings-count.result c.put_settings-count.new.settings ≡ settings_of c.args.line.now
    → (c.doonamurk_hindsight-answer.result ≡ answer_of c.args.line.now c.args.packed.now)
    × (c.doonamurk_hindsight-answer.new.report ≡ hindsight_into c.args.packed.now (settings_of c.args.line.now) c.args.list.now)
unfolding answer_of
answered c e = rw (e, c.told-list) at c.doonamurk_hindsight-answer.ensures

pub returns-then-wrong-ne0-clause-listed_value : goal.returns-then-wrong-ne0-clause-listed_value
returns-then-wrong-ne0-clause-listed_value c =
    let w = c.wrong_word-wrong.ensures in
    let none = wrong c.args.line.now c.args.packed.now (λ e. c.if-wrong-ne0.true (w ∙ e)) in
    (sym none.0, (tt, put_same (ap wrong_text w ∙ sym none.1) c.put_wrong.ensures))

pub returns-then-answer-ne0-clause-listed_value : goal.returns-then-answer-ne0-clause-listed_value
returns-then-answer-ne0-clause-listed_value c =
    let e = goal.at.returns-then-answer-ne0-clause-listed_value c in
    let a = answered e.After-doonamurk_hindsight-answer (stored e.After-put_settings-count) in
    let right = sym c.wrong_word-wrong.ensures ∙ c.if-wrong-ne0.false in
    let none = refused c.args.line.now c.args.packed.now right (λ e. c.if-answer-ne0.true (a.0 ∙ e)) in
    (sym none.0, (tt, put_same (ap refused_text a.0 ∙ sym none.1) c.put_refused.ensures))

pub returns-then-answer-ne0-clause-said_value : goal.returns-then-answer-ne0-clause-said_value
returns-then-answer-ne0-clause-said_value c =
    let e = goal.at.returns-then-answer-ne0-clause-said_value c in
    let a = answered e.After-doonamurk_hindsight-answer (stored e.After-put_settings-count) in
    (tt, a.1 ∙ kept c.args.line.now c.args.packed.now c.args.list.now c.told-list (λ e. c.if-answer-ne0.true (a.0 ∙ e)))

pub last_year_of-requires : goal.last_year_of-requires
last_year_of-requires c =
    let e = goal.at.last_year_of-requires c in
    let a = answered e.After-doonamurk_hindsight-answer (stored e.After-put_settings-count) in
    some_record c.args.line.now c.args.packed.now (sym a.0 ∙ c.if-answer-ne0.false)

pub returns-clause-listed_value : goal.returns-clause-listed_value
returns-clause-listed_value c =
    let line = c.args.line.now in
    let packed = c.args.packed.now in
    let e = goal.at.returns-clause-listed_value c in
    let a = answered e.After-doonamurk_hindsight-answer (stored e.After-put_settings-count) in
    let taken = sym a.0 ∙ c.if-answer-ne0.false in
    let put = c.put_settings-count.ensures in
    let right = sym c.wrong_word-wrong.ensures ∙ c.if-wrong-ne0.false in (
      sym (listed line packed right taken),
      (
        (
          record {
            years = c.last_year_of.ensures.0;
            years_few = omega (arith, c.last_year_of.ensures.1);
            tried = put.0;
            settings = c.first_settings.ensures ∙ rw put.1.1 (stored_first (settings_of line) (asked line packed taken).few);
          },
          a.1 ∙ filled line packed taken c.args.list.now c.told-list,
        ),
        tt,
      ),
    )
