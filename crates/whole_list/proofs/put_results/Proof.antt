-- The four groups of sections follow one another (sets_append, joined_both). Assumes nothing.
use borrow.Author.Rules.{rules}
use native.Mathlib.Omega.{arith}
use mathlib.Core.Path.{◌≡◌, ◌∙◌}
use mathlib.Core.List.{List, [], ◌∷◌, ◌++◌, map}
use Prim.Native.Nat.{ℕ, ◌+◌, ◌-◌, ◌*◌}
use lib.IntN.{ℤ, pos}
use lib.ListN.{length, take, length-append, length-map}
use lib.Seq.{sets}
use Rattle.rules.specs.Lists.{total, up_to, joined}
use Rattle.rules.specs.Record.{cells}
use Rattle.rules.specs.Expense.{not_reported, reserve}
use Rattle.rules.specs.Results.{separation_sections, completion_sections, reserve_sections, ladder_sections, tail_sections}
use Rattle.laws.proofs.Lists.{length_up_to}
use Rattle.laws.proofs.TriangleRows.{cells_least}
use Rattle.laws.proofs.Joined.{sets_append, joined_both}
use Rattle.listing.proofs.Counts.{results_count}
use Rattle.whole_list.specs.Printed.{printed_list}
use Rattle.whole_list.proofs.put_results.Statement.{statement}
use Rattle.whole_list.proofs.put_results.Tie as tie

-- four runs of stores, one after another
four_runs : (a b d e : List (List ℤ)) (l : List ℤ) {p q r : ℕ} → p ≡ length (joined a) → q ≡ p + length (joined b) → r ≡ q + length (joined d)
    → sets (sets (sets (sets l 0 (joined a)) p (joined b)) q (joined d)) r (joined e) ≡ sets l 0 (joined (a ++ (b ++ (d ++ e))))
four_runs a b d e l {p} {q} {r} i j h =
    rw (joined_both a (b ++ (d ++ e)), joined_both b (d ++ e), joined_both d e)
    (sets_append (joined d) (joined e) (sets (sets l 0 (joined a)) p (joined b)) q r h
    ∙ sets_append (joined b) (joined d ++ joined e) (sets l 0 (joined a)) p q j
    ∙ sets_append (joined a) (joined b ++ (joined d ++ joined e)) l 0 p (omega arith))

-- how many entries the sections of the reserve have
reserves-length : (k : ℕ) (n q : List ℕ) (p : ℕ) → length n ≡ k + 1 → length q ≡ k + 1 → length (joined (reserve_sections n q p)) ≡ 2 * (k + 1) + 2
unfolding reserve_sections joined
reserves-length k n q p i j =
    omega (arith, length-append (map pos n) (map pos q ++ (pos (total q) ∷ pos p ∷ [])), length-append (map pos q) (pos (total q) ∷ pos p ∷ []), length-map n pos, length-map q pos)

put-separation-requires : tie.Need-put_separation-a-requires
put-separation-requires c κs =
    let s = c.before in
    let p = s.requires.0 in
    (p.few, (omega (arith, results_count s.args.k, s.requires.1), (p.shares, p.levels)))

put-completion-requires : tie.Need-put_completion-b-requires
put-completion-requires c κs =
    let first = c.before.before in
    let s = first.before.before in
    let p = s.requires.0 in
    (p.few, (omega (arith, first.put_separation-a.ensures.0, results_count s.args.k, s.requires.1), (p.ahead, (p.payments, p.provisions))))

put-reserves-requires : tie.Need-put_reserves-c-requires
put-reserves-requires c κs =
    let second = c.before.before in
    let first = second.before.before.before in
    let s = first.before.before in
    let k = s.args.k in
    (s.requires.0.reserves, omega (arith, first.put_separation-a.ensures.0, second.put_completion-b.ensures.0, results_count k, cells_least k, s.requires.1))

put-last-requires : tie.Need-put_last-requires
put-last-requires c κs =
    let third = c.before.before in
    let second = third.before.before.before in
    let first = second.before.before.before in
    let s = first.before.before in
    let k = s.args.k in
    let p = s.requires.0 in (
      p.few,
      (
        omega (arith, first.put_separation-a.ensures.0, second.put_completion-b.ensures.0, third.put_reserves-c.ensures.0, results_count k, cells_least k, s.requires.1),
        (p.factors, (p.completed, p.tails)),
      ),
    )

same_length : tie.Need-shape_of-out
same_length c = search rules

returns : tie.Need-returns
unfolding printed_list
returns c =
    let last = c.before in
    let third = last.before.before.before in
    let second = third.before.before.before in
    let first = second.before.before.before in
    let s = first.before.before in
    let k = s.args.k in
    let b = s.args.reporting.now in
    let d = s.args.paid.now in
    let q = s.args.provisions.now in
    let rest = up_to (not_reported k b d q) (k + 1) in
    let amounts = up_to (reserve k s.args.ratio s.args.weight b d q) (k + 1) in
    rw (last.put_last.ensures.1, third.put_reserves-c.ensures.1, second.put_completion-b.ensures.1.1, first.put_separation-a.ensures.1.1)
    (four_runs
    (separation_sections k s.args.square.now (take (k + 1) s.args.shares.now) (take (k + 1) s.args.levels.now))
    (completion_sections (take k s.args.ahead.now) (take (cells k - (k + 1)) s.args.payments.now) (take (k + 1) q))
    (reserve_sections rest amounts s.args.ratio)
    (ladder_sections (take k s.args.factors.now) (take (cells k - (k + 1)) s.args.completed.now) ++ tail_sections (take (k + 1) s.args.tails.now))
    s.args.out.now
    first.put_separation-a.ensures.1.0 second.put_completion-b.ensures.1.0
    (omega (arith, third.put_reserves-c.ensures.0, reserves-length k rest amounts s.args.ratio (length_up_to _ (k + 1)) (length_up_to _ (k + 1)))))

pub put_results_spec : {M : Type 1} → statement M
put_results_spec =
    tie.close
    (tie.spec
    put-separation-requires
    put-completion-requires
    put-reserves-requires
    put-last-requires
    same_length
    returns)
