-- Questions one after another: where the answer is 0, where the first or the others give it, and what a question changes that is moved forward. Assumes nothing.
use Prim.Native.Nat.{ℕ, zero, suc, ◌≤◌}
use native.Mathlib.Omega.{arith}
use borrow.Author.Tests.{leb-true, eqb-true, eqb-false, not-true, eq-eqb, ne_eqb}
use mathlib.Core.Path.{◌≡◌, refl, sym, ◌∙◌}
use mathlib.Core.Bool.{Bool, true, false, cond, ◌&&◌, not, and-false}
use mathlib.Core.List.{List, [], ◌∷◌, ◌++◌}
use lib.Dec.{eqb, leb}
use lib.ListN.{get_or}
use Rattle.rules.specs.Lists.{every}
use Rattle.rules.specs.Questions.{first_no, questions_before, after_call}
use Rattle.laws.proofs.Lists.{both_left, both_right}

-- whether every question has a number from 1 on
abbrev pub numbered : List (ℕ × Bool) → Bool
numbered qs = every (λ q. leb 1 q.0) qs

-- of questions whose answer is 0, the first says yes, and the answer of the others is 0
passed : (q : ℕ × Bool) (qs : List (ℕ × Bool)) → numbered (q ∷ qs) ≡ true → first_no (q ∷ qs) ≡ 0 → (q.1 ≡ true) × ((numbered qs ≡ true) × (first_no qs ≡ 0))
unfolding first_no every
passed q qs n h =
    let both = go q.0 q.1 (first_no qs) (leb-true 1 q.0 (both_left (leb 1 q.0) (numbered qs) n)) h in
    (both.0, (both_right (leb 1 q.0) (numbered qs) n, both.1))
  where
    go : (k : ℕ) (b : Bool) (m : ℕ) → 1 ≤ k → cond b m k ≡ 0 → (b ≡ true) × (m ≡ 0)
    go k true m l e = (refl, e)
    go k false m l e = absurd (omega arith)

-- where the answer is 0, every question says yes
pub yes_at : (qs : List (ℕ × Bool)) → numbered qs ≡ true → first_no qs ≡ 0 → (i : ℕ) → (get_or qs i (0, true)).1 ≡ true
yes_at [] n h i = refl
yes_at (q ∷ qs) n h zero = (passed q qs n h).0
yes_at (q ∷ qs) n h (suc i) = yes_at qs (passed q qs n h).1.0 (passed q qs n h).1.1 i

-- where the first questions all say yes, the others give the answer
pub later_answer : (qs rs : List (ℕ × Bool)) → numbered qs ≡ true → first_no qs ≡ 0 → first_no (qs ++ rs) ≡ first_no rs
unfolding first_no
later_answer [] rs n h = refl
later_answer (q ∷ qs) rs n h =
    let p = passed q qs n h in
    rw p.0 (later_answer qs rs p.1.0 p.1.1)

-- where one of the first says no, they give the answer
pub first_answer : (qs rs : List (ℕ × Bool)) → (first_no qs ≡ 0 → ⊥) → first_no (qs ++ rs) ≡ first_no qs
unfolding first_no
first_answer [] rs h = absurd (h refl)
first_answer (q ∷ qs) rs h = go q.1 (first_no qs) (first_no (qs ++ rs)) (first_answer qs rs) h
  where
    go : (b : Bool) (m m' : ℕ) → ((m ≡ 0 → ⊥) → m' ≡ m) → (cond b m q.0 ≡ 0 → ⊥) → cond b m' q.0 ≡ cond b m q.0
    go true m m' same h = same h
    go false m m' same h = refl

-- what question n says among the questions qs; yes where there is none of that number
abbrev pub said : ℕ → List (ℕ × Bool) → Bool
said n [] = true
said n (q ∷ qs) = cond (eqb q.0 n) q.1 (said n qs)

-- where the answer is 0, the question with that number says yes
pub yes_said : (n : ℕ) (qs : List (ℕ × Bool)) → numbered qs ≡ true → first_no qs ≡ 0 → said n qs ≡ true
yes_said n [] a h = refl
yes_said n (q ∷ qs) a h = let p = passed q qs a h in go (eqb q.0 n) p.0 (yes_said n qs p.1.0 p.1.1)
  where
    go : (b : Bool) → q.1 ≡ true → said n qs ≡ true → cond b q.1 (said n qs) ≡ true
    go true e f = e
    go false e f = f

-- where the answer of the first questions and the others is 0, both answers are
pub both_zero : (qs rs : List (ℕ × Bool)) → numbered qs ≡ true → first_no (qs ++ rs) ≡ 0 → (first_no qs ≡ 0) × (first_no rs ≡ 0)
unfolding first_no every
both_zero [] rs n h = (refl, h)
both_zero (q ∷ qs) rs n h = go q.1 (leb-true 1 q.0 (both_left (leb 1 q.0) (numbered qs) n)) h (both_zero qs rs (both_right (leb 1 q.0) (numbered qs) n))
  where
    go : (b : Bool) → 1 ≤ q.0 → cond b (first_no (qs ++ rs)) q.0 ≡ 0 → (first_no (qs ++ rs) ≡ 0 → (first_no qs ≡ 0) × (first_no rs ≡ 0))
        → (cond b (first_no qs) q.0 ≡ 0) × (first_no rs ≡ 0)
    go true l e after = after e
    go false l e after = absurd (omega arith)

-- what a call leaves that was refused
pub after_refusal : {A : Type 0} (n : ℕ) (written held : A) → (n ≡ 0 → ⊥) → after_call n written held ≡ held
unfolding after_call
after_refusal zero written held h = absurd (h refl)
after_refusal (suc n) written held h = refl

-- whether no question has the number n
abbrev pub without : ℕ → List (ℕ × Bool) → Bool
without n qs = every (λ q. not (eqb q.0 n)) qs

-- then n, from 1 on, is not the answer
pub other_answer : (n : ℕ) → 1 ≤ n → (qs : List (ℕ × Bool)) → without n qs ≡ true → first_no qs ≡ n → ⊥
unfolding first_no every
other_answer n l [] w h = omega arith
other_answer n l (q ∷ qs) w h =
    let here = eqb-false q.0 n (not-true (eqb q.0 n) (both_left (not (eqb q.0 n)) (without n qs) w)) in
    go q.1 here (other_answer n l qs (both_right (not (eqb q.0 n)) (without n qs) w)) h
  where
    go : (b : Bool) → (q.0 ≡ n → ⊥) → (first_no qs ≡ n → ⊥) → cond b (first_no qs) q.0 ≡ n → ⊥
    go true here after e = after e
    go false here after e = here e

-- whether one question alone has the number n, or none
abbrev pub once : ℕ → List (ℕ × Bool) → Bool
once n [] = true
once n (q ∷ qs) = cond (eqb q.0 n) (without n qs) (once n qs)

-- then it says no where its number, from 1 on, is the answer
pub no_said : (n : ℕ) → 1 ≤ n → (qs : List (ℕ × Bool)) → once n qs ≡ true → first_no qs ≡ n → said n qs ≡ false
unfolding first_no
no_said n l [] o h = absurd (omega arith)
no_said n l (q ∷ qs) o h = go (eqb q.0 n) refl q.1 refl o h (no_said n l qs)
  where
    go : (x : Bool) → eqb q.0 n ≡ x → (b : Bool) → q.1 ≡ b → cond x (without n qs) (once n qs) ≡ true → cond b (first_no qs) q.0 ≡ n
        → (once n qs ≡ true → first_no qs ≡ n → said n qs ≡ false) → cond x b (said n qs) ≡ false
    go true e true f o h after = absurd (other_answer n l qs o h)
    go true e false f o h after = refl
    go false e true f o h after = after o h
    go false e false f o h after = absurd (eqb-false q.0 n e h)

-- where it says no, and those before it yes, its number is the answer
pub no_answers : (n : ℕ) (qs : List (ℕ × Bool)) → numbered qs ≡ true → first_no (questions_before n qs) ≡ 0 → said n qs ≡ false → first_no qs ≡ n
unfolding first_no questions_before every
no_answers n [] a h e = absurd (let w : ◌≡◌ {A = ℕ} 0 1 = cc in omega arith)
no_answers n (q ∷ qs) a h e =
    let least = leb-true 1 q.0 (both_left (leb 1 q.0) (numbered qs) a) in
    go (eqb q.0 n) refl q.1 refl least h e (no_answers n qs (both_right (leb 1 q.0) (numbered qs) a))
  where
    go : (x : Bool) → eqb q.0 n ≡ x → (b : Bool) → q.1 ≡ b → 1 ≤ q.0 → first_no (cond x [] (q ∷ questions_before n qs)) ≡ 0 → cond x b (said n qs) ≡ false
        → (first_no (questions_before n qs) ≡ 0 → said n qs ≡ false → first_no qs ≡ n) → cond b (first_no qs) q.0 ≡ n
    go true f true g least h e after = absurd (let w : ◌≡◌ {A = ℕ} 0 1 = cc in omega arith)
    go true f false g least h e after = eqb-true q.0 n f
    go false f true g least h e after = after (rw g at h) e
    go false f false g least h e after = absurd (let z : q.0 ≡ 0 = rw g at h in omega arith)

-- where its number is the answer, those before it say yes
pub answer_passed : (n : ℕ) (qs : List (ℕ × Bool)) → first_no qs ≡ n → first_no (questions_before n qs) ≡ 0
unfolding first_no questions_before
answer_passed n [] h = refl
answer_passed n (q ∷ qs) h = go (eqb q.0 n) refl q.1 refl h (answer_passed n qs)
  where
    go : (x : Bool) → eqb q.0 n ≡ x → (b : Bool) → q.1 ≡ b → cond b (first_no qs) q.0 ≡ n → (first_no qs ≡ n → first_no (questions_before n qs) ≡ 0)
        → first_no (cond x [] (q ∷ questions_before n qs)) ≡ 0
    go true e b f h after = refl
    go false e true f h after = rw f (after h)
    go false e false f h after = absurd (eqb-false q.0 n e h)

-- whether question m stands before question n
abbrev pub precedes : ℕ → ℕ → List (ℕ × Bool) → Bool
precedes m n [] = false
precedes m n (q ∷ qs) = not (eqb q.0 n) && cond (eqb q.0 m) true (precedes m n qs)

-- then it says yes where the answer is n
pub yes_before : (m n : ℕ) (qs : List (ℕ × Bool)) → precedes m n qs ≡ true → first_no qs ≡ n → said m qs ≡ true
unfolding first_no
yes_before m n [] o h = refl
yes_before m n (q ∷ qs) o h =
    let here = eqb-false q.0 n (not-true (eqb q.0 n) (both_left (not (eqb q.0 n)) (cond (eqb q.0 m) true (precedes m n qs)) o)) in
    go (eqb q.0 m) q.1 here (both_right (not (eqb q.0 n)) (cond (eqb q.0 m) true (precedes m n qs)) o) h (yes_before m n qs)
  where
    go : (x b : Bool) → (q.0 ≡ n → ⊥) → cond x true (precedes m n qs) ≡ true → cond b (first_no qs) q.0 ≡ n → (precedes m n qs ≡ true → first_no qs ≡ n → said m qs ≡ true)
        → cond x b (said m qs) ≡ true
    go x false here o h after = absurd (here h)
    go true true here o h after = refl
    go false true here o h after = after o h

-- whether a question q, asked directly after the first and no longer after those between, gives the answer that one of those between gave: the first say yes, q says no, and so
-- does one of those between
abbrev pub overtakes : List (ℕ × Bool) → ℕ × Bool → List (ℕ × Bool) → Bool
overtakes first q between = eqb (first_no first) 0 && (not q.1 && not (eqb (first_no between) 0))

module _ (first between rest : List (ℕ × Bool)) (q : ℕ × Bool) (k : numbered first ≡ true) (l : numbered (q ∷ between) ≡ true) where
  between_numbered : numbered between ≡ true
  unfolding every
  between_numbered = both_right (leb 1 q.0) (numbered between) l

  least : 1 ≤ q.0
  unfolding every
  least = leb-true 1 q.0 (both_left (leb 1 q.0) (numbered between) l)

  -- what there is to show of the answer m with q moved forward and the answer n of before, where q overtakes and where it does not
  abbrev Moves : Bool → ℕ → ℕ → Type 0
  Moves b m n = cond b ((m ≡ q.0) × ((n ≡ first_no between) × (first_no between ≡ 0 → ⊥))) (m ≡ n)

  no_here : q.1 ≡ false → first_no (q ∷ (between ++ rest)) ≡ q.0
  unfolding first_no
  no_here f = rw f

  moves : Moves (overtakes first q between) (first_no (first ++ (q ∷ (between ++ rest)))) (first_no (first ++ (between ++ (q ∷ rest))))
  unfolding first_no
  moves = go (eqb (first_no first) 0) refl q.1 refl (eqb (first_no between) 0) refl
    where
      go : (x : Bool) → eqb (first_no first) 0 ≡ x → (b : Bool) → q.1 ≡ b → (y : Bool) → eqb (first_no between) 0 ≡ y
          → Moves (x && (not b && not y)) (first_no (first ++ (q ∷ (between ++ rest)))) (first_no (first ++ (between ++ (q ∷ rest))))
      go false e b f y g = first_answer first _ (eqb-false _ 0 e) ∙ sym (first_answer first _ (eqb-false _ 0 e))
      go true e b f true g =
          let yes = eqb-true _ 0 e in
          let all = eqb-true _ 0 g in
          rw (and-false (not b), later_answer first (q ∷ (between ++ rest)) k yes, later_answer first (between ++ (q ∷ rest)) k yes, later_answer between (q ∷ rest) between_numbered all, later_answer between rest between_numbered all)
      go true e true f false g =
          let yes = eqb-true _ 0 e in
          let no = eqb-false _ 0 g in
          rw (later_answer first (q ∷ (between ++ rest)) k yes, later_answer first (between ++ (q ∷ rest)) k yes, first_answer between (q ∷ rest) no, f, first_answer between rest no)
      go true e false f false g =
          let yes = eqb-true _ 0 e in
          let no = eqb-false _ 0 g in
          (later_answer first (q ∷ (between ++ rest)) k yes ∙ no_here f, (later_answer first (between ++ (q ∷ rest)) k yes ∙ first_answer between (q ∷ rest) no, no))

  -- the answer is that of q where it overtakes, and otherwise that of before
  pub moved_answer : first_no (first ++ (q ∷ (between ++ rest))) ≡ cond (overtakes first q between) q.0 (first_no (first ++ (between ++ (q ∷ rest))))
  moved_answer = go (overtakes first q between) _ _ moves
    where
      go : (b : Bool) (m n : ℕ) → Moves b m n → m ≡ cond b q.0 n
      go true m n h = h.0
      go false m n h = h

  -- it is another just where q overtakes, once none of those between has its number
  pub moved_changes : without q.0 between ≡ true
      → eqb (first_no (first ++ (q ∷ (between ++ rest)))) (first_no (first ++ (between ++ (q ∷ rest)))) ≡ not (overtakes first q between)
  moved_changes w = go (overtakes first q between) _ _ moves
    where
      go : (b : Bool) (m n : ℕ) → Moves b m n → eqb m n ≡ not b
      go true m n h = ne_eqb m n (λ e. other_answer q.0 least between w (sym h.1.0 ∙ (sym e ∙ h.0)))
      go false m n h = eq-eqb m n h

  -- and what a call leaves is what it left before
  pub moved_call : {A : Type 0} (written held : A)
      → after_call (first_no (first ++ (q ∷ (between ++ rest)))) written held ≡ after_call (first_no (first ++ (between ++ (q ∷ rest)))) written held
  moved_call written held = go (overtakes first q between) _ _ moves
    where
      go : (b : Bool) (m n : ℕ) → Moves b m n → after_call m written held ≡ after_call n written held
      go true m n h = after_refusal m written held (λ z. omega (arith, least, h.0)) ∙ sym (after_refusal n written held (λ z. h.1.1 (sym h.1.0 ∙ z)))
      go false m n h = rw h
