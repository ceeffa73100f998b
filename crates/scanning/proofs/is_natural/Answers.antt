-- `all` asks of every byte whether it is a digit. Assumes nothing.
use mathlib.Core.Path.{sym, ◌∙◌}
use Rattle.std.proofs.Common.{rules, tests}
use Rattle.std.proofs.lemmas.Iterator.Search.{all_from_yields_List}
use Rattle.std.proofs.lemmas.Iterator.{YieldsList-from_slice}
use Rattle.laws.proofs.Library.{every_is_all}
use Rattle.scanning.specs.Numbers.{is_digit}
use Rattle.scanning.proofs.Numbers.{natural_is}
use Rattle.scanning.proofs.is_natural.Goals as goal

pub returns-then-not-is_empty : goal.returns-then-not-is_empty
returns-then-not-is_empty c =
    let xs = c.args.word.now in
    all_from_yields_List is_digit _ _ c.all.result c.all.ensures.ran (YieldsList-from_slice xs c.iter.ensures.rest) (λ x b q k. search (rules, tests))
    ∙ sym (natural_is xs (search rules) ∙ every_is_all is_digit xs)
