use Rattle.std.proofs.Common.{refl, arith, ℕ, ◌-◌}
use Rattle.std.specs.Prelude.{if◌then◌else◌}
use Rattle.std.specs.Char.{is_ascii_digit}
use Rattle.field_codec.specs.declared.digits.TheConstants.{DIGITS}
use Rattle.field_codec.proofs.Tables.{entry_at, is_table}
use Rattle.field_codec.proofs.digits.digit.Goals as goal

pub returns : goal.returns
unfolding is_table
returns c = rw c.from.ensures (entry_at (λ (b : ℕ). if is_ascii_digit b then b - 48 else 16) DIGITS c.args.byte refl (omega arith))
