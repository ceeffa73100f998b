-- Texts of the user: one byte more, that an escaped one cannot leave its element, and how long it is at most. Assumes nothing.
use mathlib.Core.Path.{◌≡◌, refl, sym}
use mathlib.Core.Bool.{Bool, true, false}
use mathlib.Core.List.{List, [], ◌∷◌, ◌++◌, map, map-append}
use Prim.Native.Nat.{ℕ, ◌+◌, ◌*◌, ◌≤◌, ◌<◌}
use native.Mathlib.Decide.{dec_lt, ℕ_discrete}
use native.Mathlib.Numerals.{add-one}
use native.Mathlib.Omega.{arith}
use borrow.Author.Tests.{lt-ltb, le-ltb, eq-eqb, ne_eqb}
use lib.ListN.{length, get_or, take, length-append}
use lib.Seq.{take-suc}
use Rattle.rules.specs.Lists.{joined}
use Rattle.laws.proofs.Joined.{joined_append}
use Rattle.composing.specs.Text.{Put}
use Rattle.composing.proofs.Puts.{put_none, put_append, put_same}
use Rattle.titles.specs.Titles.{plain_byte, escaped_byte, byte_in, text_in, escaped, title_in, title_of}
use Rattle.titles.specs.Element.{begins, entity_first, element_text}

-- none, and one byte more
pub put_text_first : (html : Bool) (a : List ℕ) (i : ℕ) (text : List ℕ) → Put a a i i (text_in html (take 0 text))
unfolding text_in joined
put_text_first html a i text = put_none a i

text_more : (html : Bool) (text : List ℕ) (n : ℕ) → n < length text → text_in html (take (n + 1) text) ≡ text_in html (take n text) ++ byte_in html (get_or text n 0)
unfolding text_in
text_more html text n h =
    rw (add-one n, take-suc text n 0 h, map-append (byte_in html) (take n text) (get_or text n 0 ∷ []))
    (joined_append (map (byte_in html) (take n text)) (byte_in html (get_or text n 0)))

pub put_text_more : (html : Bool) {a b c : List ℕ} {i j k : ℕ} (text : List ℕ) (n : ℕ) → n < length text → Put a b i j (text_in html (take n text))
    → Put b c j k (byte_in html (get_or text n 0)) → Put a c i k (text_in html (take (n + 1) text))
put_text_more html text n h p q = put_same (sym (text_more html text n h)) (put_append p q)

-- with a title and without
pub no_title : (html : Bool) (title : List ℕ) → length title ≡ 0 → title_in html [] ≡ title_in html title
unfolding title_in
no_title html [] h = refl
no_title html (b ∷ title) h = absurd (omega arith)

pub some_title : (html : Bool) (title : List ℕ) → (length title ≡ 0 → ⊥) → text_in html title ≡ title_in html title
unfolding title_in
some_title html [] h = absurd (h refl)
some_title html (b ∷ title) h = refl

-- a byte that is none of the three stays so, or is a space
other_byte : (b : ℕ) → (b ≡ 38 → ⊥) → (b ≡ 60 → ⊥) → (b ≡ 62 → ⊥) → ((plain_byte b ≡ 38 → ⊥) × (plain_byte b ≡ 60 → ⊥)) × (plain_byte b ≡ 62 → ⊥)
unfolding plain_byte
other_byte b amp less more = go (dec_lt b 32) (ℕ_discrete b 127)
  where
    go : Dec (b < 32) → Dec (b ≡ 127) → ((plain_byte b ≡ 38 → ⊥) × (plain_byte b ≡ 60 → ⊥)) × (plain_byte b ≡ 62 → ⊥)
    go (yes h) d = rw (lt-ltb b 32 h) (((λ e. absurd (omega arith)), (λ e. absurd (omega arith))), (λ e. absurd (omega arith)))
    go (no h) (yes e) = rw (le-ltb b 32 (omega arith), eq-eqb b 127 e) (((λ e. absurd (omega arith)), (λ e. absurd (omega arith))), (λ e. absurd (omega arith)))
    go (no h) (no e) = rw (le-ltb b 32 (omega arith), ne_eqb b 127 e) ((amp, less), more)

-- text of an element stays so with an escaped byte in front
byte_first : (b : ℕ) (rest : List ℕ) → element_text rest ≡ true → element_text (escaped_byte b ++ rest) ≡ true
unfolding element_text entity_first begins escaped_byte
byte_first b rest h = go (ℕ_discrete b 38) (ℕ_discrete b 60) (ℕ_discrete b 62)
  where
    go : Dec (b ≡ 38) → Dec (b ≡ 60) → Dec (b ≡ 62) → element_text (escaped_byte b ++ rest) ≡ true
    go (yes e) d f = rw (e, h)
    go (no a) (yes e) f = rw (e, h)
    go (no a) (no l) (yes e) = rw (e, h)
    go (no a) (no l) (no m) =
        let ((amp, less), more) = other_byte b a l m in
        rw (ne_eqb b 38 a, ne_eqb b 60 l, ne_eqb b 62 m, ne_eqb (plain_byte b) 60 less, ne_eqb (plain_byte b) 62 more, ne_eqb (plain_byte b) 38 amp, h)

-- an escaped text, and a title, cannot end their element or begin another
pub escaped_stays : (text : List ℕ) → element_text (escaped text) ≡ true
unfolding text_in joined byte_in element_text
escaped_stays [] = refl
escaped_stays (b ∷ text) = byte_first b (joined (map (byte_in true) text)) (escaped_stays text)

pub title_stays : (text : List ℕ) → element_text (title_of text) ≡ true
unfolding title_in element_text entity_first begins
title_stays [] = refl
title_stays (b ∷ text) = escaped_stays (b ∷ text)

-- how long a text is
escaped_byte_most : (b : ℕ) → length (escaped_byte b) ≤ 5
unfolding escaped_byte
escaped_byte_most b = go (ℕ_discrete b 38) (ℕ_discrete b 60) (ℕ_discrete b 62)
  where
    go : Dec (b ≡ 38) → Dec (b ≡ 60) → Dec (b ≡ 62) → length (escaped_byte b) ≤ 5
    go (yes e) d f = rw e (omega arith)
    go (no a) (yes e) f = rw e (omega arith)
    go (no a) (no l) (yes e) = rw e (omega arith)
    go (no a) (no l) (no m) = rw (ne_eqb b 38 a, ne_eqb b 60 l, ne_eqb b 62 m) (omega arith)

byte_most : (html : Bool) (b : ℕ) → length (byte_in html b) ≤ 5
unfolding byte_in
byte_most true b = escaped_byte_most b
byte_most false b = omega arith

pub text_most : (html : Bool) (text : List ℕ) → length (text_in html text) ≤ 5 * length text
unfolding text_in joined
text_most html [] = omega arith
text_most html (b ∷ text) = omega (arith, length-append (byte_in html b) (joined (map (byte_in html) text)), byte_most html b, text_most html text)

pub title_most : (html : Bool) (text : List ℕ) → length (title_in html text) ≤ 16 + 5 * length text
unfolding title_in
title_most html [] = omega arith
title_most html (b ∷ text) = omega (arith, text_most html (b ∷ text))
