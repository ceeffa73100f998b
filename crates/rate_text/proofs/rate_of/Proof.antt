-- Bits, or a decimal, or neither. Assumes nothing.
use mathlib.Core.Path.{sym, ap, ◌∙◌}
use lib.Ieee.{binary64, of_bits}
use Rattle.rate_text.proofs.RateText.{bits_value, decimal_value, no_rate}
use borrow.Author.Rules.{rules}
use Rattle.rate_text.proofs.rate_of.Statement.{statement}
use Rattle.rate_text.proofs.rate_of.Tie as tie

bits-of-requires : tie.Need-bits_of-requires
bits-of-requires c κs = sym c.before.is_bits.ensures ∙ c.if-is_bits.true

returns : tie.Need-returns-then-is_bits
returns c =
    c.float_of.ensures
    ∙ ap (of_bits binary64) c.before.bits_of.ensures
    ∙ bits_value _ (sym c.before.before.before.is_bits.ensures ∙ c.before.before.if-is_bits.true)

decimal-of-requires : tie.Need-decimal_of-requires
decimal-of-requires c κs = sym c.before.is_decimal.ensures ∙ c.if-is_decimal.true

returns-2 : tie.Need-returns-then-is_decimal
returns-2 c =
    let d = c.before in
    c.decimal_of.ensures ∙ decimal_value _ (sym d.before.before.before.is_bits.ensures ∙ d.before.before.if-is_bits.false) (sym d.before.is_decimal.ensures ∙ d.if-is_decimal.true)

returns-3 : tie.Need-returns
returns-3 c =
    let d = c.before in
    c.float_of-2.ensures ∙ no_rate _ (sym d.before.before.before.is_bits.ensures ∙ d.before.before.if-is_bits.false) (sym d.before.is_decimal.ensures ∙ d.if-is_decimal.false)

pub rate_of_spec : {M : Type 1} → statement M
rate_of_spec =
    tie.close
    (tie.spec
    (λ c κs. search rules)
    bits-of-requires
    (λ c κs. search rules)
    returns
    (λ c κs. search rules)
    decimal-of-requires
    returns-2
    (λ c κs. search rules)
    returns-3)
