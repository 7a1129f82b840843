use Rattle.std.proofs.Common.{arith, length}
use Rattle.field_codec.proofs.Numbers.{few_digits, numeral_none, numeral_some}
use Rattle.field_codec.proofs.number.magnitude.Goals as goal

pub with_few_digits-requires : goal.with_few_digits-requires
with_few_digits-requires c = omega (arith, few_digits (length c.args.text.now) 18 (omega arith))

pub returns-clause-numeral : goal.returns-clause-numeral
returns-clause-numeral c = numeral_some c.args.text.now c.with_few_digits.result (omega arith) c.with_few_digits.ensures.digits

pub returns-clause-value : goal.returns-clause-value
returns-clause-value c = c.with_few_digits.ensures.value

pub returns-clause-none : goal.returns-clause-none
returns-clause-none c = numeral_none c.args.text.now c.with_few_digits.result c.with_few_digits.ensures.other
