use Rattle.std.proofs.Common.{Some, None}
use Rattle.field_codec.proofs.Hexadecimals.{eight_read}
use Rattle.field_codec.proofs.hexadecimal.read_eight_bytes.Goals as goal

pub returns-in_err-read_digits : goal.returns-in_err-read_digits
returns-in_err-read_digits c = rw c.from_residual.ensures (eight_read None c.args.text.now c.requires c.in_err-read_digits.ensures)

pub returns : goal.returns
returns c = rw c.to_be_bytes.ensures (eight_read (Some c.in_ok-read_digits.field-0) c.args.text.now c.requires c.in_ok-read_digits.ensures)
