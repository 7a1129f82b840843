use Rattle.std.proofs.Common.{refl, arith, [], ◌∷◌}
use Rattle.data_types.specs.promise.Value.{Null, Bytes}
use Rattle.data_types.specs.declared.kind.DataType.TheVariants as kinds
use Rattle.tree_tests.proofs.TestColumns.{fitting}
use Rattle.tree_tests.proofs.column_arrays.triples.Goals as goal

pub exported-requires : goal.exported-requires
exported-requires g c = (
  kinds.FixedBinary 3,
  Bytes (97 ∷ 98 ∷ 99 ∷ []) ∷ Null ∷ Bytes (100 ∷ 101 ∷ 102 ∷ []) ∷ [],
  record {
    is_encoded = record { length = refl; null_count = refl; buffers = rw c.two.ensures (c.block-validity.ensures, (c.block-data.ensures, tt)) };
    fits = fitting (kinds.FixedBinary 3) (Bytes (97 ∷ 98 ∷ 99 ∷ []) ∷ Null ∷ Bytes (100 ∷ 101 ∷ 102 ∷ []) ∷ []) (omega arith) tt (omega arith)
        (refl, (refl, (refl, tt))) (omega arith);
    indices = tt;
  },
)
