-- The parts follow one another (put_five). Assumes nothing.
use Rattle.composing.proofs.Puts.{put_five}
use Rattle.hindsight_page.specs.Page.{settings_paragraph, settings_section}
use borrow.Author.Rules.{rules}
use Rattle.hindsight_page.proofs.put_settings_section.Statement.{statement}
use Rattle.hindsight_page.proofs.put_settings_section.Tie as tie

put-best-requires : tie.Need-put_best-d-requires
put-best-requires c κs =
    let s = c.before.before.before.before.before.before.before.before.before.before.before.before.before.before in
    let shown = s.requires.1.1 in
    ((shown.known, shown.one), (shown.indices s.args.a s.requires.0, shown.small))

returns : tie.Need-returns
unfolding settings_section settings_paragraph
returns c = put_five c.before.before.before.before.before.before.before.before.before.before.before.before.before.before.before.before.before.before.before.before.put_section_start-b.ensures c.before.before.before.before.before.before.before.before.before.before.before.before.before.before.put_only-c.ensures c.before.before.before.before.before.before.before.before.before.before.put_best-d.ensures c.before.before.before.before.before.before.put_settings_figures-e.ensures c.before.before.put_section_end.ensures

pub put_settings_section_spec : {M : Type 1} → statement M
put_settings_section_spec =
    tie.close
    (tie.spec
    (λ c κs. search rules)
    (λ c κs. search rules)
    put-best-requires
    (λ c κs. search rules)
    (λ c κs. search rules)
    (λ c. search rules)
    returns)
