-- Whether every byte is a digit is what `all` answers. Assumes nothing.
use Rattle.std.proofs.Common.{rules}
use mathlib.Core.Path.{sym, ◌∙◌}
use Rattle.std.proofs.lemmas.Iterator.{YieldsList-from_slice}
use Rattle.std.proofs.lemmas.Iterator.Search.{all_from_yields_List}
use Rattle.laws.proofs.Library.{every_is_all}
use Rattle.rate_text.specs.RateText.{is_hex_digit}
use Rattle.rate_text.proofs.RateText.{bits_are}
use Rattle.rate_text.proofs.is_bits.Goals as goal

pub returns-then-word-eq16 : goal.returns-then-word-eq16
returns-then-word-eq16 c =
    all_from_yields_List is_hex_digit _ _ _ c.all.ensures.ran (YieldsList-from_slice c.args.word.now cc) (λ x b q k. (search rules, search rules))
    ∙ sym (bits_are c.args.word.now c.if-word-eq16.true ∙ every_is_all is_hex_digit c.args.word.now)
