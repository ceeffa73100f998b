-- The two outcomes (Outcomes). Assumes nothing.
use mathlib.Core.Path.{◌≡◌, refl, sym, ◌∙◌}
use mathlib.Core.List.{List}
use native.Mathlib.Omega.{arith}
use Prim.Native.Nat.{ℕ}
use Rattle.composing.specs.Text.{Put}
use Rattle.sheet.specs.Sheet.{read_history}
use Rattle.history_wording.specs.Refused.{history_said}
use Rattle.history_reading.proofs.Outcomes.{right_said}
use Rattle.history_run.proofs.Outcomes.{wrong, listed, stored_answer, stored_list}
use Rattle.history_run.proofs.list_text.Goals as goal

-- nothing is said of a text that is as due
nothing_said : (text : List ℕ) {a b : List ℕ} {n : ℕ} → (read_history text).problem ≡ 0 → Put a b 0 n (history_said text) → Put a b 0 0 (history_said text)
nothing_said text right p = record { stored = p.stored; ended = rw (sym (right_said text right)) (omega arith) }

pub returns-then-taken-ne0 : goal.returns-then-taken-ne0
returns-then-taken-ne0 c =
    let taken = c.take_history-taken in
    let none = wrong c.args.text.now (λ e. c.if-taken-ne0.true (taken.ensures.0 ∙ e)) in
    rw none (refl, (tt, (refl, taken.ensures.1.1.1.1.0)))

pub fill_from-requires : goal.fill_from-requires
fill_from-requires c =
    let taken = c.take_history-taken in
    let text = c.args.text.now in
    let right : (read_history text).problem ≡ 0 = sym taken.ensures.0 ∙ c.if-taken-ne0.false in
    (c.requires, rw (taken.ensures.1.0, taken.ensures.1.1.0) (stored_answer text right _ _ refl taken.ensures.1.1.1.0))

pub returns : goal.returns
returns c =
    let taken = c.take_history-taken in
    let text = c.args.text.now in
    let right : (read_history text).problem ≡ 0 = sym taken.ensures.0 ∙ c.if-taken-ne0.false in
    let list = stored_list text right _ _ refl taken.ensures.1.1.1.0 in
    rw (listed text right) (refl, ((taken.ensures.1.0, taken.ensures.1.1.0), (c.fill_from.ensures ∙ rw (taken.ensures.1.0, taken.ensures.1.1.0, list) refl, nothing_said text right taken.ensures.1.1.1.1.0)))
