-- Worked calls for the indices of inflation (request 5 of document 02): each shape, both sides of the limits, and what is refused; they are ours, and the numbers those of a machine's
-- own floats. A table apart, since in the one of Marked they take more steps than a check grants to one theorem. Assumes nothing.
use mathlib.Core.Path.{◌≡◌, refl}
use mathlib.Core.Bool.{true, false}
use mathlib.Core.List.{List, [], ◌∷◌, map}
use Prim.Native.Nat.{ℕ}
use lib.IntN.{pos}
use lib.ListN.{replicate}
use lib.Ieee.{Float, nan, inf, fin, binary64, of_bits, add, sub, mul, neg, le, is_nan}
use Rattle.rules.specs.Lists.{up_to, padded, every}
use Rattle.rules.specs.Questions.{first_no, after_call}
use Rattle.rules.specs.Inflation.{least_rate, most_rate, fading_after, rate_after, path_after, nearest_whole, scaled_after, index_after, rate_fits, shape_fits, rates_pass, indices_pass, inflation_questions, inflation_answer, indices_of}
use Rattle.rules.specs.declared.Inflation.{Inflation}
use Rattle.rules.specs.declared.Inflation.TheVariants.{Flat, Fading, Shock}

-- the number that a call answers, and its sixteen indices
abbrev call : Inflation → ℕ → List ℕ
call shape years = (indices_of shape years).refused ∷ (indices_of shape years).values

-- an accepted call with no index past these, and a refused one
abbrev accepted : List ℕ → List ℕ
accepted indices = 0 ∷ padded 16 0 indices

abbrev refused : ℕ → List ℕ
refused number = number ∷ replicate 16 0

-- 0.02, 0.07, 0.1 and −0.0, and the floats next to 1.0 and −0.5 outside them
abbrev two_percent : Float
two_percent = of_bits binary64 0x3f94_7ae1_47ae_147b

abbrev seven_percent : Float
seven_percent = of_bits binary64 0x3fb1_eb85_1eb8_51ec

abbrev ten_percent : Float
ten_percent = of_bits binary64 0x3fb9_9999_9999_999a

abbrev minus_zero : Float
minus_zero = fin true 0 (pos 0)

abbrev above_most : Float
above_most = of_bits binary64 0x3ff0_0000_0000_0001

abbrev below_least : Float
below_least = of_bits binary64 0xbfe0_0000_0000_0001

-- what the rules give, and what is expected
abbrev pub call_table : List (List ℕ × List ℕ)
call_table =
    (call (Flat two_percent) 4, accepted (1020000 ∷ 1040400 ∷ 1061208 ∷ 1082432 ∷ []))
    ∷ (call (Fading seven_percent two_percent) 5, accepted (1070000 ∷ 1118150 ∷ 1154490 ∷ 1184795 ∷ 1212194 ∷ []))
    ∷ (call (Shock ten_percent two_percent 3) 4, accepted (1020000 ∷ 1040400 ∷ 1144440 ∷ 1167329 ∷ []))
    ∷ (call (Flat least_rate) 16, accepted (500000 ∷ 250000 ∷ 125000 ∷ 62500 ∷ 31250 ∷ 15625 ∷ 7813 ∷ 3906 ∷ 1953 ∷ 977 ∷ 488 ∷ 244 ∷ 122 ∷ 61 ∷ 31 ∷ 15 ∷ []))
    ∷ (call (Fading least_rate most_rate) 5, accepted (500000 ∷ 625000 ∷ 1015625 ∷ 1840820 ∷ 3509064 ∷ []))
    ∷ (call (Flat minus_zero) 2, accepted (1000000 ∷ 1000000 ∷ []))
    ∷ (call (Flat most_rate) 2, accepted (2000000 ∷ 4000000 ∷ []))
    ∷ (call (Flat most_rate) 3, refused 21)
    ∷ (call (Flat nan) 3, refused 20)
    ∷ (call (Fading most_rate (inf false)) 3, refused 20)
    ∷ (call (Flat above_most) 1, refused 20)
    ∷ (call (Flat below_least) 1, refused 20)
    ∷ (call (Shock most_rate nan 1) 1, refused 20)
    ∷ (call (Flat most_rate) 0, refused 20)
    ∷ (call (Flat least_rate) 17, refused 20)
    ∷ (call (Shock most_rate most_rate 0) 2, refused 20)
    ∷ (call (Shock most_rate most_rate 3) 2, refused 20)
    ∷ []

pub calls_hold : map (λ row. row.0) call_table ≡ map (λ row. row.1) call_table
unfolding up_to padded every first_no after_call fading_after rate_after path_after nearest_whole scaled_after index_after rate_fits shape_fits rates_pass indices_pass inflation_questions inflation_answer indices_of of_bits add sub mul neg le is_nan
calls_hold = refl
