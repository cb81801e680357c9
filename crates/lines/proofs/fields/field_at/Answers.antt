use native.Mathlib.Omega.{arith}
use mathlib.Core.Path.{sym, ◌∙◌}
use Rattle.lines.proofs.ScanLaws.{digit-within, none-opened, no-field, field-begins}
use Rattle.lines.proofs.fields.field_at.Goals as goal

pub returns-then-text-start : goal.returns-then-text-start
returns-then-text-start c = record { text_value = none-opened c.args.text.now c.args.start c.if-text-start.true; within = tt }

pub returns-then-not-is_digit : goal.returns-then-not-is_digit
returns-then-not-is_digit c = record { text_value = no-field c.args.text.now c.args.start c.if-text-start.false (sym c.is_digit.ensures ∙ c.if-not-is_digit.true); within = tt }

pub overflow_sub-byte : goal.overflow_sub-byte
overflow_sub-byte c = omega (arith, digit-within _ (sym c.is_digit.ensures ∙ c.if-not-is_digit.false))

pub returns : goal.returns
returns c = record { text_value = field-begins c.args.text.now c.args.start c.if-text-start.false (sym c.is_digit.ensures ∙ c.if-not-is_digit.false) ∙ c.digits_from.ensures.text_value; within = c.digits_from.ensures.within }
