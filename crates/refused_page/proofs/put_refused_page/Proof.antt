-- The parts follow one another. Assumes nothing.
use Rattle.composing.proofs.Puts.{put_length, put_three, put_five}
use Rattle.refused_page.specs.RefusedPage.{refused_page}
use Rattle.refused_page.proofs.Asked.{some_known, inputs_passed}
use borrow.Author.Rules.{rules}
use Rattle.refused_page.proofs.put_refused_page.Statement.{statement}
use Rattle.refused_page.proofs.put_refused_page.Tie as tie

returns : tie.Need-returns
unfolding refused_page
returns c =
    put_three c.before.before.before.before.before.before.before.before.before.before.before.before.before.before.before.before.before.before.before.before.before.before.before.before.before.before.put_page_start-a.ensures c.before.before.before.before.before.before.before.before.before.before.before.before.before.before.before.before.before.before.before.before.before.before.put_refused_opening-b.ensures
    (put_five c.before.before.before.before.before.before.before.before.before.before.before.before.before.before.before.before.before.before.put_refusal-c.ensures c.before.before.before.before.before.before.before.before.before.before.before.before.before.before.put_known_inputs-d.ensures c.before.before.before.before.before.before.before.before.before.before.put_refused_proof-e.ensures c.before.before.before.before.before.before.put_record_section-f.ensures c.before.before.put_page_end.ensures)

same_length : tie.Need-shape_of-out
same_length c = put_length (returns c)

put-refused-opening-requires : tie.Need-put_refused_opening-b-requires
put-refused-opening-requires c κs =
    let s = c.before.before.before.before.before.before.before.before.before in
    (s.requires.0, some_known s.args.year s.args.packed.now s.args.n s.requires.1.1.0)

put-refusal-requires : tie.Need-put_refusal-c-requires
put-refusal-requires c κs =
    let s = c.before.before.before.before.before.before.before.before.before.before.before.before.before in
    (s.requires.0, s.requires.1.1)

put-known-inputs-requires : tie.Need-put_known_inputs-d-requires
put-known-inputs-requires c κs =
    let s = c.before.before.before.before.before.before.before.before.before.before.before.before.before.before.before.before.before in
    (s.requires.0, (s.requires.1.0, inputs_passed s.args.year s.args.packed.now s.args.n s.requires.1.1.0))

pub put_refused_page_spec : {M : Type 1} → statement M
put_refused_page_spec =
    tie.close
    (tie.spec
    (λ c κs. search rules)
    put-refused-opening-requires
    put-refusal-requires
    put-known-inputs-requires
    (λ c κs. search rules)
    (λ c κs. search rules)
    (λ c κs. search rules)
    same_length
    returns)
