-- With nothing still to be paid every record gets document 01's answer and document 01's list, then zeros: for every record of today with the amount 0 there is document
-- 01's record of the same other fields, for every record of document 01 and every index there is today's, and the runs of the two are the same. Assumes nothing.
use Prim.Native.Nat.{ℕ, ◌+◌, ◌≤◌}
use native.Mathlib.Omega.{arith}
use mathlib.Core.Path.{◌≡◌, sym, ap, ◌∙◌}
use mathlib.Core.List.{List, [], ◌∷◌}
use lib.ListN.{length, get_or, drop, get_or-append}
use lib.Seq.{get_or-take}
use Rattle.rules.specs.Lists.{padded}
use Rattle.rules.specs.Packing.{Fit}
use Rattle.rules.specs.Questions.{first_no}
use Rattle.rules.specs.Record.{most_index, layout, kinds_of, section, widths, bit_count, byte_count, filling_count, last_year_of, codes_of, filling_of, fields_of, indices_in, figures_of}
use Rattle.rules.specs.Reading.{has_length, opening_questions}
use Rattle.packing.proofs.Pack.{unpack_fits, length_row}
use Rattle.layout.specs.Places.{start_of}
use Rattle.opening.proofs.Opened.{WholeRecord, whole_record}
use Rattle.reading.proofs.ListsRead.{one_row, codes, lists}
use Rattle.record.proofs.Number.{bytes_with}
use Rattle.no_tail.proofs.Document01.{layout01, widths01, byte_count01, filling_count01, codes_of01, opening_questions01, SameCodes, Without, SameRun}
use Rattle.no_tail.proofs.Rows.{Long, codes_long}
use Rattle.no_tail.proofs.Fitting.{fits_old, fits_new}
use Rattle.no_tail.proofs.Opening.{MadeOf, opened_years, made}
use Rattle.no_tail.proofs.OtherCodes.{old_codes, old_long, old_same, new_codes, new_long, new_same}
use Rattle.no_tail.proofs.SameRun.{same_run}

-- the index e_{k+1} of the record s
abbrev pub last_index : List ℕ → ℕ
last_index s = get_or (figures_of s).indices (last_year_of s) 0

-- the first code is the same
first_same : {k e : ℕ} {xs ys : List ℕ} → SameCodes k e xs ys → get_or xs 0 0 ≡ get_or ys 0 0
unfolding layout layout01 section
first_same {xs} {ys} c = sym (get_or-take 1 xs 0 0 (omega arith)) ∙ ap (λ (l : List ℕ). get_or l 0 0) c.years ∙ get_or-take 1 ys 0 0 (omega arith)

-- document 01's record t beside today's record s, and the runs of the two
pub record Older (s : List ℕ) : Type 0 where
  pub t : List ℕ
  pub bytes : Fit 8 t
  pub without : Without (last_index s) t s
  pub same : SameRun t s

-- today's record s, with the index e, beside document 01's record t, and the runs of the two
pub record Newer (e : ℕ) (t : List ℕ) : Type 0 where
  pub s : List ℕ
  pub bytes : Fit 8 s
  pub without : Without e t s
  pub same : SameRun t s

module _ (s : List ℕ) (h : Fit 8 s) (opened : first_no (opening_questions s) ≡ 0) where
  abbrev k : ℕ
  k = last_year_of s

  whole : WholeRecord s
  whole = whole_record s h opened

  -- the amount and e_{k+1} among the codes
  amount_row : (figures_of s).tail ≡ 0 → section (layout (last_year_of s)) 7 (codes_of s) ≡ 0 ∷ []
  unfolding figures_of
  amount_row none = (codes s whole).tail ∙ one_row s (start_of k 7) 34 ∙ ap (λ (x : ℕ). x ∷ []) (sym (lists s whole).tail ∙ none)

  index_row : get_or (section (layout (last_year_of s)) 3 (codes_of s)) (last_year_of s) 0 ≡ last_index s
  unfolding figures_of padded
  index_row =
      let same : section (layout k) 3 (codes_of s) ≡ indices_in k (fields_of s) = (codes s whole).indices ∙ sym (lists s whole).indices in
      let long : length (indices_in k (fields_of s)) ≡ k + 1 = ap length (lists s whole).indices ∙ length_row s (start_of k 3) 23 (k + 1) in
      ap (λ (l : List ℕ). get_or l k 0) same ∙ sym (get_or-append (indices_in k (fields_of s)) _ 0 k (omega arith))

  -- every record that passes questions 1 and 2, with the amount 0 and e_{k+1} in its range
  pub older : (figures_of s).tail ≡ 0 → 1 ≤ last_index s → last_index s ≤ most_index → Older s
  unfolding opening_questions has_length codes_of filling_of byte_count filling_count bit_count widths layout kinds_of opening_questions01 codes_of01 byte_count01 filling_count01 widths01 layout01
  older none least most =
      let xs = codes_of s in
      let long : Long (layout k) xs = codes_long (layout k) _ in
      let ys = old_codes k xs long in
      let c : SameCodes k (last_index s) xs ys = rw index_row at (old_same k xs long (amount_row none)) in
      let fits = fits_old c most long (old_long k xs long) (unpack_fits (widths k) _) in
      let years = opened_years (λ k. drop 1 (widths k)) s h opened in
      let t = bytes_with (widths01 k) ys in
      let m : MadeOf (λ k. drop 1 (widths01 k)) k ys t = made (λ k. drop 1 (widths01 k)) k ys years.0 fits (sym (first_same c) ∙ years.1) in
      let w : Without (last_index s) t s = record {
        opened01 = m.opened;
        opened = opened;
        least = least;
        most = most;
        years = sym m.years;
        codes = rw (m.codes, m.years) c;
      } in
      record { t = t; bytes = m.small; without = w; same = same_run (last_index s) t s w }

-- every record of document 01 that passes its questions 1 and 2, with every index
pub newer : (e : ℕ) (t : List ℕ) → Fit 8 t → first_no (opening_questions01 t) ≡ 0 → 1 ≤ e → e ≤ most_index → Newer e t
unfolding opening_questions has_length codes_of filling_of byte_count filling_count bit_count widths layout kinds_of opening_questions01 codes_of01 byte_count01 filling_count01 widths01 layout01
newer e t h opened least most =
    let k = last_year_of t in
    let ys = codes_of01 t in
    let long : Long (layout01 k) ys = codes_long (layout01 k) _ in
    let xs = new_codes k e ys long in
    let c = new_same k e ys long in
    let fits = fits_new c most (new_long k e ys long) long (unpack_fits (widths01 k) _) in
    let years = opened_years (λ k. drop 1 (widths01 k)) t h opened in
    let s = bytes_with (widths k) xs in
    let m : MadeOf (λ k. drop 1 (widths k)) k xs s = made (λ k. drop 1 (widths k)) k xs years.0 fits (first_same c ∙ years.1) in
    let w : Without e t s = record { opened01 = opened; opened = m.opened; least = least; most = most; years = m.years; codes = rw m.codes c } in
    record { s = s; bytes = m.small; without = w; same = same_run e t s w }
