use Rattle.std.proofs.Common.{refl}
use Rattle.facts.proofs.unions.union_arrays.Goals as goal

pub returns : goal.returns
returns c =
    record {
      dense = refl;
      dense_is_lawful = refl;
      window = refl;
      window_is_lawful = refl;
      sparse = refl;
      sparse_is_lawful = refl;
      bad_id = refl;
      signed_id = refl;
      short = refl;
      outside = refl;
      short_child = refl;
      buffers = refl;
    }
