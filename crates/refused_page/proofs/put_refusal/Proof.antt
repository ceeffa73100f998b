-- The section is that of what was found. Question 8 comes after the questions that the years ask for (late). Assumes nothing.
use native.Mathlib.Omega.{arith}
use Rattle.composing.proofs.Puts.{put_append}
use Rattle.triangle_findings.proofs.Again.{late}
use Rattle.refused_page.specs.RefusedPage.{refusal}
use borrow.Author.Rules.{rules}
use Rattle.refused_page.proofs.put_refusal.Statement.{statement}
use Rattle.refused_page.proofs.put_refusal.Tie as tie

put-refused-rests-requires : tie.Need-put_refused_rests-requires
put-refused-rests-requires c κs e =
    let s = c.before.before.before.before.before.before.before.before in
    late s.args.year s.args.packed.now s.args.n (omega arith) s.requires.1.0

returns : tie.Need-returns
unfolding refusal
returns c =
    put_append (rw c.before.before.before.before.before.before.before.before.find-found.ensures.0 at c.before.before.before.before.before.before.put_refused_section-a.ensures) c.before.before.put_refused_rests.ensures

pub put_refusal_spec : {M : Type 1} → statement M
put_refusal_spec =
    tie.close
    (tie.spec
    (λ c κs. search rules)
    (λ c κs. search rules)
    put-refused-rests-requires
    (λ c. search rules)
    returns)
