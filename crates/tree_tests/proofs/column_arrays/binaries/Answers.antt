use Rattle.std.proofs.Common.{refl, arith, true, [], ◌∷◌}
use Rattle.data_types.specs.promise.Value.{Bytes}
use Rattle.data_types.specs.declared.kind.DataType.TheVariants as kinds
use Rattle.tree_tests.proofs.TestColumns.{fitting}
use Rattle.tree_tests.proofs.column_arrays.binaries.Goals as goal

pub exported-requires : goal.exported-requires
exported-requires g c = (
  kinds.Binary true,
  Bytes (1 ∷ 2 ∷ []) ∷ Bytes [] ∷ Bytes (3 ∷ []) ∷ [],
  record {
    is_encoded =
        record { length = refl; null_count = refl; buffers = rw c.three.ensures (tt, (c.block-offsets.ensures, (c.block-data.ensures, tt))) };
    fits = fitting (kinds.Binary true) (Bytes (1 ∷ 2 ∷ []) ∷ Bytes [] ∷ Bytes (3 ∷ []) ∷ []) tt tt (omega arith) (refl, (refl, (refl, tt))) (omega arith);
    indices = tt;
  },
)
