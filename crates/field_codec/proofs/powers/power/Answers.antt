use Rattle.std.proofs.Common.{refl, arith, ℕ, ◌^◌}
use Rattle.field_codec.specs.declared.powers.TheConstants.{POWERS}
use Rattle.field_codec.proofs.Tables.{entry_at, is_table}
use Rattle.field_codec.proofs.powers.power.Goals as goal

pub returns : goal.returns
unfolding is_table
returns c = entry_at (λ (k : ℕ). 10 ^ k) POWERS c.args.exponent refl (omega arith)
