use Rattle.std.proofs.Common.{refl, arith, ℕ}
use Rattle.std.specs.Prelude.{if◌then◌else◌}
use Rattle.std.specs.Char.{is_ascii_hexdigit, digit_value}
use Rattle.field_codec.specs.declared.hexadecimal.TheConstants.{DIGITS}
use Rattle.field_codec.proofs.Tables.{entry_at, is_table}
use Rattle.field_codec.proofs.hexadecimal.digit.Goals as goal

pub returns : goal.returns
unfolding is_table
returns c = rw c.from.ensures (entry_at (λ (b : ℕ). if is_ascii_hexdigit b then digit_value b else 16) DIGITS c.args.byte refl (omega arith))
