-- A list whose first places hold their new values already, the others their old ones: one more a turn. Assumes nothing.
use mathlib.Core.Path.{◌≡◌, sym, ◌∙◌}
use mathlib.Core.Bool.{cond}
use Prim.Native.Nat.{ℕ, ◌+◌, ◌≤◌, ◌<◌}
use native.Mathlib.Decide.{dec_le}
use native.Mathlib.Omega.{arith}
use borrow.Author.Tests.{lt-ltb, le-ltb}
use lib.Dec.{ltb}
use lib.ListN.{set}
use Rattle.rules.specs.Lists.{up_to}
use Rattle.laws.proofs.Lists.{set_up_to, up_to_ext}

-- value c: new in the first j places, old in the others
abbrev pub mixed : {A : Type 0} → (ℕ → A) → (ℕ → A) → ℕ → ℕ → A
mixed old new j c = cond (ltb c j) (new c) (old c)

module _ {A : Type 0} (old new : ℕ → A) where
  mixed_before : (j c : ℕ) → c < j → mixed old new j c ≡ new c
  mixed_before j c h = rw (lt-ltb c j h)

  pub mixed_after : (j c : ℕ) → j ≤ c → mixed old new j c ≡ old c
  mixed_after j c h = rw (le-ltb c j h)

  pub mixed_none : (n : ℕ) → up_to old n ≡ up_to (mixed old new 0) n
  mixed_none n = up_to_ext _ _ n (λ c h. sym (mixed_after 0 c (omega arith)))

  -- the first j + 1 after the first j
  pub mixed_more : (n j : ℕ) → j < n → set (up_to (mixed old new j) n) j (new j) ≡ up_to (mixed old new (j + 1)) n
  mixed_more n j h =
      rw (← mixed_before (j + 1) j (omega arith)) (set_up_to (mixed old new j) (mixed old new (j + 1)) n j h (λ c ne. go c ne (dec_le j c)))
    where
      go : (c : ℕ) → (c ≡ j → ⊥) → Dec (j ≤ c) → mixed old new j c ≡ mixed old new (j + 1) c
      go c ne (yes l) = mixed_after j c l ∙ sym (mixed_after (j + 1) c (omega (arith, ne)))
      go c ne (no l) = mixed_before j c (omega arith) ∙ sym (mixed_before (j + 1) c (omega arith))

  -- the first j are all that change
  pub mixed_all : (n j : ℕ) → ((c : ℕ) → j ≤ c → c < n → old c ≡ new c) → up_to (mixed old new j) n ≡ up_to new n
  mixed_all n j same = up_to_ext _ _ n (λ c l. go c l (dec_le j c))
    where
      go : (c : ℕ) → c < n → Dec (j ≤ c) → mixed old new j c ≡ new c
      go c l (yes h) = mixed_after j c h ∙ same c h l
      go c l (no h) = mixed_before j c (omega arith)
