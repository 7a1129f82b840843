use Rattle.std.proofs.Common.{refl, arith, ℕ, ◌^◌}
use Rattle.field_codec.specs.declared.powers.TheConstants.{LONG_POWERS}
use Rattle.field_codec.proofs.Tables.{entry_at, is_table}
use Rattle.field_codec.proofs.powers.long_power.Goals as goal

pub returns : goal.returns
unfolding is_table
returns c = entry_at (λ (k : ℕ). 10 ^ k) LONG_POWERS c.args.exponent refl (omega arith)
