-- A list with an entry for each field of a layout is its rows, one after another: what `section`, `zip_with` and `every_field` are, row by row.
-- Assumes nothing.
use Prim.Native.Nat.{ℕ, zero, suc}
use native.Mathlib.Nat.{suc-ne-zero, suc_inj}
use mathlib.Core.Path.{◌≡◌, refl, sym, ap, ◌∙◌}
use mathlib.Core.Bool.{Bool, true, ◌&&◌, and_assoc}
use mathlib.Core.List.{List, [], ◌∷◌, ◌++◌, map, zip_with}
use lib.ListN.{length, get_or, replicate, length-append, length-replicate, length-map}
use lib.Seq.{take_at, drop_at}
use Rattle.rules.specs.Record.{Kind, kinds_of, section, every_field}
use Rattle.rules.specs.Lists.{every}

-- the entries of all rows, one row after another
abbrev pub join : {A : Type 0} → List (List A) → List A
join [] = []
join (xs ∷ xss) = xs ++ join xss

-- the rows have the lengths that the layout gives
abbrev pub Shaped : {A : Type 0} → List (ℕ × Kind) → List (List A) → Type 0
Shaped [] [] = Unit {0}
Shaped [] (xs ∷ xss) = ⊥
Shaped (r ∷ rs) [] = ⊥
Shaped (r ∷ rs) (xs ∷ xss) = (length xs ≡ r.0) × Shaped rs xss

-- a function of the kind applied to every entry, row by row
abbrev pub map_rows : {A B : Type 0} → (Kind → A → B) → List (ℕ × Kind) → List (List A) → List (List B)
map_rows g [] xss = []
map_rows g (r ∷ rs) [] = []
map_rows g (r ∷ rs) (xs ∷ xss) = map (g r.1) xs ∷ map_rows g rs xss

-- a test of the kind, row by row
abbrev pub every_row : {A : Type 0} → (Kind → A → Bool) → List (ℕ × Kind) → List (List A) → Bool
every_row ok [] xss = true
every_row ok (r ∷ rs) [] = true
every_row ok (r ∷ rs) (xs ∷ xss) = every (ok r.1) xs && every_row ok rs xss

module _ {A : Type 0} where
  pub length_join : (rs : List (ℕ × Kind)) (xss : List (List A)) → Shaped rs xss → length (join xss) ≡ length (kinds_of rs)
  unfolding kinds_of
  length_join [] [] h = refl
  length_join [] (xs ∷ xss) h = absurd h
  length_join (r ∷ rs) [] h = absurd h
  length_join (r ∷ rs) (xs ∷ xss) h =
      rw (length-append xs (join xss), length-append (replicate r.0 r.1) (kinds_of rs), h.0, length-replicate r.0 r.1, length_join rs xss h.1)

  pub section_join : (rs : List (ℕ × Kind)) (xss : List (List A)) → Shaped rs xss → (i : ℕ) → section rs i (join xss) ≡ get_or xss i []
  unfolding section
  section_join [] [] h i = refl
  section_join [] (xs ∷ xss) h i = absurd h
  section_join (r ∷ rs) [] h i = absurd h
  section_join (r ∷ rs) (xs ∷ xss) h zero = take_at xs (join xss) r.0 h.0
  section_join (r ∷ rs) (xs ∷ xss) h (suc i) = rw (drop_at xs (join xss) r.0 h.0) (section_join rs xss h.1 i)

  -- a test of the kind over the fields of one row and those after it
  every_append : (ok : Kind → A → Bool) (κ : Kind) (κs : List Kind) (n : ℕ) (xs ys : List A) → length xs ≡ n
      → every_field ok (replicate n κ ++ κs) (xs ++ ys) ≡ every (ok κ) xs && every_field ok κs ys
  unfolding every_field every
  every_append ok κ κs zero [] ys h = refl
  every_append ok κ κs zero (x ∷ xs) ys h = absurd (suc-ne-zero (length xs) h)
  every_append ok κ κs (suc n) [] ys h = absurd (suc-ne-zero n (sym h))
  every_append ok κ κs (suc n) (x ∷ xs) ys h =
      rw (every_append ok κ κs n xs ys (suc_inj h)) (sym (and_assoc (ok κ x) (every (ok κ) xs) (every_field ok κs ys)))

  pub every_join : (ok : Kind → A → Bool) (rs : List (ℕ × Kind)) (xss : List (List A)) → Shaped rs xss → every_field ok (kinds_of rs) (join xss) ≡ every_row ok rs xss
  unfolding kinds_of every_field
  every_join ok [] [] h = refl
  every_join ok [] (xs ∷ xss) h = absurd h
  every_join ok (r ∷ rs) [] h = absurd h
  every_join ok (r ∷ rs) (xs ∷ xss) h =
      every_append ok r.1 (kinds_of rs) r.0 xs (join xss) h.0 ∙ ap (λ (b : Bool). every (ok r.1) xs && b) (every_join ok rs xss h.1)

module _ {A B : Type 0} (g : Kind → A → B) where
  zip_append : (κ : Kind) (κs : List Kind) (n : ℕ) (xs ys : List A) → length xs ≡ n
      → zip_with g (replicate n κ ++ κs) (xs ++ ys) ≡ map (g κ) xs ++ zip_with g κs ys
  unfolding zip_with
  zip_append κ κs zero [] ys h = refl
  zip_append κ κs zero (x ∷ xs) ys h = absurd (suc-ne-zero (length xs) h)
  zip_append κ κs (suc n) [] ys h = absurd (suc-ne-zero n (sym h))
  zip_append κ κs (suc n) (x ∷ xs) ys h = ap (λ (l : List B). g κ x ∷ l) (zip_append κ κs n xs ys (suc_inj h))

  pub zip_join : (rs : List (ℕ × Kind)) (xss : List (List A)) → Shaped rs xss → zip_with g (kinds_of rs) (join xss) ≡ join (map_rows g rs xss)
  unfolding kinds_of zip_with
  zip_join [] [] h = refl
  zip_join [] (xs ∷ xss) h = absurd h
  zip_join (r ∷ rs) [] h = absurd h
  zip_join (r ∷ rs) (xs ∷ xss) h =
      zip_append r.1 (kinds_of rs) r.0 xs (join xss) h.0 ∙ ap (λ (l : List B). map (g r.1) xs ++ l) (zip_join rs xss h.1)

  -- the rows keep their lengths
  pub map_rows_shaped : (rs : List (ℕ × Kind)) (xss : List (List A)) → Shaped rs xss → Shaped rs (map_rows g rs xss)
  map_rows_shaped [] [] h = tt
  map_rows_shaped [] (xs ∷ xss) h = absurd h
  map_rows_shaped (r ∷ rs) [] h = absurd h
  map_rows_shaped (r ∷ rs) (xs ∷ xss) h = (length-map xs (g r.1) ∙ h.0, map_rows_shaped rs xss h.1)
