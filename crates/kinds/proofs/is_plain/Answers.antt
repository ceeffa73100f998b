-- Whether every byte passes is what `all` answers. Assumes nothing.
use Rattle.std.proofs.Common.{rules}
use mathlib.Core.Path.{sym, ◌∙◌}
use Rattle.std.proofs.lemmas.Iterator.{YieldsList-from_slice}
use Rattle.std.proofs.lemmas.Iterator.Search.{all_from_yields_List}
use Rattle.laws.proofs.Library.{every_is_all}
use Rattle.kinds.specs.Kinds.{text_byte}
use Rattle.kinds.proofs.is_plain.Goals as goal

pub returns : goal.returns
returns c =
    all_from_yields_List text_byte _ _ _ c.all.ensures.ran (YieldsList-from_slice c.args.bytes.now cc) (λ x b q k. (search rules, search rules))
    ∙ sym (every_is_all text_byte c.args.bytes.now)
