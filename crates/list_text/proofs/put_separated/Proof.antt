-- The loop's invariant: the first i entries are put. Assumes nothing.
use borrow.Author.Rules.{rules, sfits_of}
use mir.Syntax.{w64}
use mir.Facts.{to_z-of_z}
use mathlib.Core.Path.{◌≡◌}
use mathlib.Core.List.{List}
use native.Mathlib.Omega.{arith}
use Prim.Native.Nat.{ℕ, ◌-◌, ◌≤◌}
use lib.IntN.{ℤ, pos}
use lib.ListN.{length, get_or, take, length-take}
use lib.Seq.{get_or-take}
use Rattle.rules.specs.Lists.{up_to, joined}
use Rattle.laws.proofs.Lists.{up_to_ext}
use Rattle.composing.specs.Text.{Put}
use Rattle.composing.proofs.Puts.{put_first, put_more, put_same, put_length}
use Rattle.list_text.specs.EntryLines.{after, entry_text, entries_by}
use Rattle.list_text.proofs.put_separated.Statement.{statement}
use Rattle.list_text.proofs.put_separated.Tie as tie

-- entry i and the byte after it
abbrev entry : List ℤ → ℕ → ℕ → ℕ → List ℕ
entry list n between i = entry_text (get_or list i (pos 0)) (after between n i)

-- all n of them are the text of the first n
all_entries : (list : List ℤ) (n between : ℕ) → n ≤ length list → joined (up_to (entry list n between) n) ≡ entries_by between (take n list)
unfolding entries_by
all_entries list n between h =
    let size : length (take n list) ≡ n = rw length-take (omega arith) in
    rw (size, up_to_ext (entry list n between) (λ i. entry_text (get_or (take n list) i (pos 0)) (after between n i)) n (λ i l. rw (get_or-take n list i (pos 0) l)))

abbrev invariant-loop : tie.invariant-loop-i
invariant-loop out₀ at list n between end₀ i₀ out end i = (i ≤ n) × Put out₀ out at end (joined (up_to (entry list n between) i))

abbrev decreases-loop : tie.decreases-loop-i
decreases-loop out₀ at list n between end₀ i₀ out end i = n - i

loop-holds : tie.Need-loop-i-init invariant-loop decreases-loop
loop-holds c = (omega arith, put_first _ _ _)

loop-again : tie.Need-loop-i-preserved invariant-loop decreases-loop
loop-again c =
    let t = c.before.before.before in
    let at = t.before.before.before.before in
    let s = at.before.before.args in
    let kept = to_z-of_z {w = w64} {z = get_or s.list.now at.loop-i.i (pos 0)} (sfits_of t.before.put_entry-arg-in-loop-i-1.given) in
    let put = rw (kept, t.after_entry.ensures) at c.before.before.put_entry-end.ensures in
    (omega arith, put_more (entry s.list.now s.n s.between) at.loop-i.i at.loop-i.invariant.1 put)

same_length : tie.Need-shape_of-out invariant-loop decreases-loop
same_length c = put_length c.before.loop-i.invariant.1

returns : tie.Need-returns invariant-loop decreases-loop
returns c =
    let s = c.before.before.before in
    let e : c.before.loop-i.i ≡ s.args.n = omega arith in
    put_same (all_entries s.args.list.now s.args.n s.args.between s.requires) (rw e at c.before.loop-i.invariant.1)

pub put_separated_spec : {M : Type 1} → statement M
put_separated_spec =
    tie.close
    (tie.spec
    invariant-loop
    decreases-loop
    loop-holds
    (λ c. search rules)
    (λ c. search rules)
    (λ c κs. search rules)
    (λ c κs. search rules)
    (λ c. search rules)
    (λ c. search rules)
    loop-again
    same_length
    returns)
