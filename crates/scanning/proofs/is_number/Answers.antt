-- By the first byte, a minus sign or not. Assumes nothing.
use mathlib.Core.Path.{sym, ◌∙◌}
use Rattle.scanning.proofs.Numbers.{number_plain}
use Rattle.scanning.proofs.is_number.Goals as goal

pub returns-in-None : goal.returns-in-None
returns-in-None c = c.is_natural-in-None.ensures ∙ sym (number_plain c.args.word.now c.in-None.ensures.cases)
