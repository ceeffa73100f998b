-- Place by place, as in the table. Assumes nothing.
use borrow.Author.Tests.{eq-eqb, ne_eqb, lt-ltb, le-ltb}
use Prim.Native.Nat.{◌+◌}
use Rattle.sheet.specs.Table.{due_at}
use borrow.Author.Rules.{rules}
use Rattle.sheet.proofs.due_at.Statement.{statement}
use Rattle.sheet.proofs.due_at.Tie as tie

returns : tie.Need-returns-then-place-eq0
unfolding due_at
returns c = rw (eq-eqb c.before.args.place 0 c.if-place-eq0.true)

returns-2 : tie.Need-returns-then-place-eq1
unfolding due_at
returns-2 c =
    let i = c.before.before.args.place in
    rw (ne_eqb i 0 c.before.if-place-eq0.false, eq-eqb i 1 c.if-place-eq1.true)

returns-3 : tie.Need-returns-then-place-k
unfolding due_at
returns-3 c =
    let k = c.before.before.before.args.k in
    let i = c.before.before.before.args.place in
    rw (ne_eqb i 0 c.before.before.if-place-eq0.false, ne_eqb i 1 c.before.if-place-eq1.false, lt-ltb i (k + 3) c.if-place-k.true)

returns-4 : tie.Need-returns-then-place-k-2
unfolding due_at
returns-4 c =
    let k = c.before.before.before.before.args.k in
    let i = c.before.before.before.before.args.place in
    rw (ne_eqb i 0 c.before.before.before.if-place-eq0.false, ne_eqb i 1 c.before.before.if-place-eq1.false, le-ltb i (k + 3) c.before.if-place-k.false, eq-eqb i (k + 3) c.if-place-k-2.true)

returns-5 : tie.Need-returns-then-place-k-3
unfolding due_at
returns-5 c =
    let k = c.before.before.before.before.before.args.k in
    let i = c.before.before.before.before.before.args.place in
    rw (ne_eqb i 0 c.before.before.before.before.if-place-eq0.false, ne_eqb i 1 c.before.before.before.if-place-eq1.false, le-ltb i (k + 3) c.before.before.if-place-k.false, ne_eqb i (k + 3) c.before.if-place-k-2.false, eq-eqb i (k + 4) c.if-place-k-3.true)

returns-6 : tie.Need-returns-then-place-k-4
unfolding due_at
returns-6 c =
    let k = c.before.before.before.before.before.before.args.k in
    let i = c.before.before.before.before.before.before.args.place in
    rw (
      ne_eqb i 0 c.before.before.before.before.before.if-place-eq0.false,
      ne_eqb i 1 c.before.before.before.before.if-place-eq1.false,
      le-ltb i (k + 3) c.before.before.before.if-place-k.false,
      ne_eqb i (k + 3) c.before.before.if-place-k-2.false,
      ne_eqb i (k + 4) c.before.if-place-k-3.false,
      eq-eqb i (k + 5) c.if-place-k-4.true,
    )

returns-7 : tie.Need-returns-then-place-k-5
unfolding due_at
returns-7 c =
    let k = c.before.before.before.before.before.before.before.args.k in
    let i = c.before.before.before.before.before.before.before.args.place in
    rw (
      ne_eqb i 0 c.before.before.before.before.before.before.if-place-eq0.false,
      ne_eqb i 1 c.before.before.before.before.before.if-place-eq1.false,
      le-ltb i (k + 3) c.before.before.before.before.if-place-k.false,
      ne_eqb i (k + 3) c.before.before.before.if-place-k-2.false,
      ne_eqb i (k + 4) c.before.before.if-place-k-3.false,
      ne_eqb i (k + 5) c.before.if-place-k-4.false,
      eq-eqb i (k + 6) c.if-place-k-5.true,
    )

returns-8 : tie.Need-returns
unfolding due_at
returns-8 c =
    let k = c.before.before.before.before.before.before.before.args.k in
    let i = c.before.before.before.before.before.before.before.args.place in
    rw (
      ne_eqb i 0 c.before.before.before.before.before.before.if-place-eq0.false,
      ne_eqb i 1 c.before.before.before.before.before.if-place-eq1.false,
      le-ltb i (k + 3) c.before.before.before.before.if-place-k.false,
      ne_eqb i (k + 3) c.before.before.before.if-place-k-2.false,
      ne_eqb i (k + 4) c.before.before.if-place-k-3.false,
      ne_eqb i (k + 5) c.before.if-place-k-4.false,
      ne_eqb i (k + 6) c.if-place-k-5.false,
    )

pub due_at_spec : {M : Type 1} → statement M
due_at_spec =
    tie.close
    (tie.spec
    returns
    (λ c. search rules)
    (λ c. search rules)
    returns-2
    (λ c. search rules)
    (λ c. search rules)
    (λ c. search rules)
    (λ c. search rules)
    (λ c. search rules)
    (λ c. search rules)
    returns-3
    (λ c. search rules)
    (λ c. search rules)
    (λ c. search rules)
    returns-4
    (λ c. search rules)
    (λ c. search rules)
    (λ c. search rules)
    returns-5
    (λ c. search rules)
    (λ c. search rules)
    returns-6
    (λ c. search rules)
    (λ c. search rules)
    (λ c. search rules)
    returns-7
    (λ c. search rules)
    returns-8)
