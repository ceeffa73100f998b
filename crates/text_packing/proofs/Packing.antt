-- Packing a text, by whether something is wrong with its line of inflation. Assumes nothing.
use mathlib.Core.Path.{◌≡◌, refl, sym, ap, ◌∙◌}
use mathlib.Core.Bool.{false}
use mathlib.Core.List.{List}
use Prim.Native.Nat.{ℕ}
use borrow.Author.Tests.{eq-eqb, ne_eqb}
use Rattle.inflation_line.specs.declared.Fault.{Fault}
use Rattle.sheet.specs.Sheet.{lines, unmarked, read_sheet, pack_into, fault_of, packed_into}
use Rattle.inflation_wording.specs.FaultWords.{fault_line}
use Rattle.sheet_packing.specs.Said.{said_of, has_record, size_of}
use Rattle.text_packing.specs.Packed.{packed_said, is_packed, packed_size}

module _ (text : List ℕ) (f : Fault) (e : f ≡ fault_of text) where
  kind : (fault_of text).kind ≡ f.kind
  kind = sym (ap (λ (x : Fault). x.kind) e)

  pub faulty : (f.kind ≡ 0 → ⊥) → (buffer : List ℕ)
      → (false ≡ is_packed text) × ((buffer ≡ packed_into text buffer) × ((0 ≡ packed_size text) × (fault_line (lines (unmarked text)) f ≡ packed_said text)))
  unfolding packed_into packed_size packed_said
  faulty h buffer = rw (ne_eqb (fault_of text).kind 0 (λ z. h (sym kind ∙ z))) (refl, (refl, (refl, ap (fault_line (lines (unmarked text))) e)))

  pub faultless : f.kind ≡ 0 → (buffer : List ℕ)
      → (has_record (read_sheet text) ≡ is_packed text) × ((pack_into (read_sheet text) buffer ≡ packed_into text buffer)
      × ((size_of (read_sheet text) ≡ packed_size text) × (said_of (read_sheet text) ≡ packed_said text)))
  unfolding packed_into packed_size packed_said
  faultless h buffer = rw (eq-eqb (fault_of text).kind 0 (kind ∙ h)) (refl, (refl, (refl, refl)))
