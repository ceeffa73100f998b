-- Where questions 11, 12 and 15 say no of the figures f, and the figures there. Assumes nothing.
use Rattle.std.specs.Prelude.{ℕ, ◌+◌, leb, pos, get_or}
use Rattle.rules.specs.Record.{Figures}
use Rattle.rules.specs.Completion.{ultimate, most_ultimate}
use Rattle.rules.specs.Expense.{paid_total, ulae_total}
use Rattle.rules.specs.Results.{paid_in, provisions_in, latest_paid_in}
use Rattle.entries.specs.Leading.{leading}
use Rattle.finding.specs.Places.{nowhere, origin_year, payment_year, found}
use Rattle.finding.specs.declared.Finding.{Finding}

-- the first of the years 0 to k whose ultimate is above the most; k + 1 where there is none
unfoldable pub first_ultimate_over : Figures → ℕ
first_ultimate_over f = leading (λ i. leb (ultimate (paid_in f) (provisions_in f) i) most_ultimate) (f.k + 1)

-- 11, of that year: its paid cumulative, its provision and its ultimate
unfoldable pub ultimate_finding : Figures → Finding
ultimate_finding f =
    let i = first_ultimate_over f in
    found origin_year i 0 (pos (get_or (paid_in f) i 0)) (pos (get_or (provisions_in f) i 0)) (pos (ultimate (paid_in f) (provisions_in f) i))

-- 12: the total of P and the total of U
unfoldable pub ratio_finding : Figures → Finding
ratio_finding f = found nowhere 0 0 (paid_total f.k f.increments) (pos (ulae_total f.k f.ulae)) (pos 0)

-- 15, of the latest payment year: Y
unfoldable pub latest_finding : Figures → Finding
latest_finding f = found payment_year f.k 0 (latest_paid_in f) (pos 0) (pos 0)
