-- The lines of a sheet, one number and one line after another. Assumes nothing.
use mathlib.Core.Path.{◌≡◌, sym, ap, ◌∙◌}
use mathlib.Core.List.{List, [], ◌∷◌, ◌++◌, map, append-nil, append_assoc}
use Prim.Native.Nat.{ℕ, ◌+◌, ◌-◌, ◌≤◌, ◌<◌}
use native.Mathlib.Numerals.{add-one}
use native.Mathlib.Omega.{arith}
use lib.IntN.{ℤ, pos}
use lib.ListN.{length, get_or, take, drop, length-take, length-drop}
use Rattle.std.proofs.lemmas.List.{get_or-take}
use lib.Seq.{take-suc, get_or-drop, drop-drop}
use Rattle.rules.specs.Lists.{up_to, total}
use Rattle.rules.specs.Record.{field_count}
use Rattle.laws.proofs.Lists.{map_up_to}
use Rattle.layout.proofs.RecordSizes.{fields_count}
use Rattle.composing.specs.Text.{Put, integer}
use Rattle.composing.proofs.Puts.{put_append, put_three, put_same}
use Rattle.sheet.specs.declared.Due.{Due}
use Rattle.sheet.specs.Table.{due_at, due_lines, start_in, start_at}
use Rattle.sheet.specs.Sheet.{spaced, line_of, lines_of}
use Rattle.sheet.proofs.Table.{start_all}

-- one number more
spaced_more : (xs : List ℤ) (v : ℤ) → spaced (xs ++ (v ∷ [])) ≡ spaced xs ++ (32 ∷ integer v)
unfolding spaced
spaced_more [] v = ap (λ (l : List ℕ). 32 ∷ l) (append-nil (integer v))
spaced_more (x ∷ xs) v =
    ap (λ (l : List ℕ). 32 ∷ l) (ap (λ (l : List ℕ). integer x ++ l) (spaced_more xs v) ∙ sym (append_assoc (integer x) (spaced xs) (32 ∷ integer v)))

-- a part of a list: how long it is, and its entries
pub part_length : (vs : List ℤ) (from n : ℕ) → from + n ≤ length vs → length (take (from + n - from) (drop from vs)) ≡ n
part_length vs from n h = omega (arith, length-take (from + n - from) (drop from vs), length-drop from vs)

pub part_at : (vs : List ℤ) (from n i : ℕ) → i < n → get_or (take (from + n - from) (drop from vs)) i (pos 0) ≡ get_or vs (from + i) (pos 0)
part_at vs from n i h = get_or-take (from + n - from) (drop from vs) i (pos 0) (omega arith) ∙ get_or-drop from vs i (pos 0)

pub put_number : {a b c d : List ℕ} {h i j l : ℕ} (vs : List ℤ) (from n : ℕ) → from + n < length vs → Put a b h i (spaced (take n (drop from vs)))
    → Put b c i j (32 ∷ []) → Put c d j l (integer (get_or vs (from + n) (pos 0))) → Put a d h l (spaced (take (n + 1) (drop from vs)))
put_number vs from n small p q r =
    let v = get_or (drop from vs) n (pos 0) in
    let short : n < length (drop from vs) = omega (arith, length-drop from vs) in
    rw (add-one n, take-suc (drop from vs) n (pos 0) short, spaced_more (take n (drop from vs)) v, get_or-drop from vs n (pos 0))
    (put_three p q r)

-- how many numbers lines have together
abbrev pub counts_of : List Due → ℕ
counts_of ds = total (map (λ d. d.count) ds)

-- those of the lines of a sheet before a place, and of all of them
counts_start : (k n : ℕ) → counts_of (up_to (due_at k) n) ≡ start_at k n
unfolding start_in
counts_start k n = ap total (map_up_to (λ d. d.count) (due_at k) n)

pub sheet_counts : (k : ℕ) → counts_of (due_lines k) ≡ field_count k
unfolding due_lines
sheet_counts k = counts_start k (k + 8) ∙ start_all k ∙ sym (fields_count k)

-- one line more
lines_more : (ds : List Due) (d : Due) (vs : List ℤ) → lines_of (ds ++ (d ∷ [])) vs ≡ lines_of ds vs ++ line_of d (take d.count (drop (counts_of ds) vs))
unfolding lines_of total
lines_more [] d vs = append-nil (line_of d (take d.count vs))
lines_more (e ∷ ds) d vs =
    let first = line_of e (take e.count vs) in
    ap (λ (l : List ℕ). first ++ l) (lines_more ds d (drop e.count vs))
    ∙ rw (drop-drop (counts_of ds) e.count vs) (sym (append_assoc first (lines_of ds (drop e.count vs)) _))

pub put_next_line : {a b c : List ℕ} {h i j : ℕ} (k n from : ℕ) (vs : List ℤ) → from ≡ start_at k n → Put a b h i (lines_of (up_to (due_at k) n) vs)
    → Put b c i j (line_of (due_at k n) (take (due_at k n).count (drop from vs))) → Put a c h j (lines_of (up_to (due_at k) (n + 1)) vs)
unfolding up_to
put_next_line k n from vs e p q =
    rw (add-one n) (put_same (sym (lines_more (up_to (due_at k) n) (due_at k n) vs)) (put_append p (rw (e, ← counts_start k n) at q)))
