use Rattle.std.proofs.Common.{refl}
use Rattle.std.proofs.Common.{arith}
use Rattle.schema_meta.specs.promise.Meta.{number}
use Rattle.facts.proofs.formats.metadata.Goals as goal

pub returns : goal.returns
unfolding number
returns c = record {
  standard = record { count = omega arith; pairs = (record { key = omega arith; value = omega arith }, tt); spelled = refl };
  none = refl;
  more = refl;
}
