-- Eight bytes one after another; of no bytes the number is 0. Assumes nothing.
use mathlib.Core.Path.{◌≡◌, sym}
use mathlib.Core.List.{List}
use Prim.Native.Nat.{ℕ}
use native.Mathlib.Nat.{mod-one}
use native.Mathlib.Omega.{arith}
use Rattle.packing.specs.Field.{field_at}
use borrow.Author.Rules.{rules}
use Rattle.packing.proofs.word.Statement.{statement}
use Rattle.packing.proofs.word.Tie as tie

none : (s : List ℕ) (at : ℕ) → field_at s at 0 ≡ 0
unfolding field_at
none s at = mod-one _

followed-requires : tie.Need-followed-a-requires
followed-requires c κs = (omega arith, (omega arith, sym (none _ _)))

followed-requires-2 : tie.Need-followed-b-requires
followed-requires-2 c κs = search rules

followed-requires-3 : tie.Need-followed-c-requires
followed-requires-3 c κs = search rules

followed-requires-4 : tie.Need-followed-d-requires
followed-requires-4 c κs = search rules

followed-requires-5 : tie.Need-followed-e-requires
followed-requires-5 c κs = search rules

followed-requires-6 : tie.Need-followed-f-requires
followed-requires-6 c κs = search rules

followed-requires-7 : tie.Need-followed-g-requires
followed-requires-7 c κs = search rules

followed-requires-8 : tie.Need-followed-requires
followed-requires-8 c κs = search rules

returns : tie.Need-returns
returns c = search rules

pub word_spec : {M : Type 1} → statement M
word_spec =
    tie.close
    (tie.spec
    followed-requires
    followed-requires-2
    followed-requires-3
    followed-requires-4
    followed-requires-5
    followed-requires-6
    followed-requires-7
    followed-requires-8
    returns)
