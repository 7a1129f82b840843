use Rattle.std.proofs.Common.{refl}
use Rattle.facts.proofs.unions.standard_unions.Goals as goal

pub returns : goal.returns
returns c = record {
  dense = refl;
  dense_is_lawful = refl;
  sparse = refl;
  sparse_is_lawful = refl;
}
