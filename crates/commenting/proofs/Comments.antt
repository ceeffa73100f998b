-- The comment of a line, after some bytes without one. Assumes nothing.
use mathlib.Core.Path.{◌≡◌}
use mathlib.Core.Bool.{true, false}
use mathlib.Core.List.{List}
use Prim.Native.Nat.{ℕ, suc, ◌+◌, ◌<◌}
use native.Mathlib.Numerals.{add-one}
use native.Mathlib.Omega.{arith}
use lib.ListN.{length, get_or, drop}
use lib.Seq.{drop-cons, drop-length}
use Rattle.commenting.specs.Comments.{comments, uncommented}

-- the comment of a line, after i bytes without one: it begins here, or does not, or there is none
module _ (xs : List ℕ) (i p : ℕ) (e : uncommented 0 xs ≡ i + uncommented p (drop i xs)) where
  pub comment_here : i < length xs → comments p (get_or xs i 0) ≡ true → i ≡ uncommented 0 xs
  unfolding uncommented
  comment_here h t =
      let z : uncommented p (drop i xs) ≡ 0 = rw (drop-cons xs i 0 h, t) in
      omega arith

  pub comment_later : i < length xs → comments p (get_or xs i 0) ≡ false → uncommented 0 xs ≡ i + 1 + uncommented (get_or xs i 0) (drop (i + 1) xs)
  unfolding uncommented
  comment_later h t =
      let z : uncommented p (drop i xs) ≡ suc (uncommented (get_or xs i 0) (drop (suc i) xs)) = rw (drop-cons xs i 0 h, t) in
      rw (add-one i) (omega arith)

  pub comment_none : i ≡ length xs → length xs ≡ uncommented 0 xs
  unfolding uncommented
  comment_none h =
      let z : uncommented p (drop i xs) ≡ 0 = rw (h, drop-length xs) in
      omega arith
