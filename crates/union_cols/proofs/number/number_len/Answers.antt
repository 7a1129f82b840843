use Rattle.std.proofs.Common.{arith}
use Rattle.fmt_string.proofs.Digits.{number_front, front_within}
use Rattle.union_cols.proofs.number.number_len.Goals as goal

pub returns-then-text-ne48-clause-found : goal.returns-then-text-ne48-clause-found
returns-then-text-ne48-clause-found c =
    number_front c.args.text.now c.digits_len-len.result c.digits_len-len.ensures (omega arith)
    (front_within c.args.text.now c.digits_len-len.result c.digits_len-len.ensures) (λ zero. absurd (c.if-text-ne48.true zero))

pub returns-then-text-ne48-clause-within : goal.returns-then-text-ne48-clause-within
returns-then-text-ne48-clause-within c = front_within c.args.text.now c.digits_len-len.result c.digits_len-len.ensures
