-- The parts follow one another. Assumes nothing.
use Rattle.composing.proofs.Puts.{put_length, put_append, put_five}
use Rattle.refused_section.specs.RefusedSection.{refused_heading}
use borrow.Author.Rules.{rules}
use Rattle.refused_section.proofs.put_refused_heading.Statement.{statement}
use Rattle.refused_section.proofs.put_refused_heading.Tie as tie

returns : tie.Need-returns
unfolding refused_heading
returns c =
    put_append c.before.before.before.before.before.before.before.before.before.before.before.before.before.before.before.before.before.before.before.before.before.before.before.before.before.before.before.before.before.before.before.before.before.before.before.before.put_either-a.ensures
    (put_append c.before.before.before.before.before.before.before.before.before.before.before.before.before.before.before.before.before.before.before.before.before.before.before.before.before.before.before.before.before.before.before.before.put_decimal-b.ensures
    (put_five c.before.before.before.before.before.before.before.before.before.before.before.before.before.before.before.before.before.before.before.before.before.before.before.before.put_either-c.ensures c.before.before.before.before.before.before.before.before.before.before.before.before.before.before.before.before.before.before.before.before.put_decimal-d.ensures c.before.before.before.before.before.before.before.before.before.before.before.before.before.before.put_bytes-e.ensures c.before.before.before.before.before.before.before.before.before.before.put_at_place-g.ensures c.before.before.put_either.ensures))

same_length : tie.Need-shape_of-out
same_length c = put_length (returns c)

pub put_refused_heading_spec : {M : Type 1} → statement M
put_refused_heading_spec =
    tie.close
    (tie.spec
    (λ c κs. search rules)
    (λ c κs. search rules)
    (λ c κs. search rules)
    (λ c κs. search rules)
    (λ c κs. search rules)
    (λ c κs. search rules)
    (λ c κs. search rules)
    same_length
    returns)
