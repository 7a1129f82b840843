use Rattle.std.proofs.Common.{refl, arith, true, false, [], ◌∷◌}
use Rattle.data_types.specs.promise.Value.{Null, Truth}
use Rattle.data_types.specs.declared.kind.DataType.TheVariants as kinds
use Rattle.tree_tests.proofs.TestColumns.{fitting}
use Rattle.tree_tests.proofs.column_arrays.truths.Goals as goal

pub exported-requires : goal.exported-requires
exported-requires g c = (
  kinds.Bool,
  Truth true ∷ Truth false ∷ Null ∷ Truth true ∷ [],
  record {
    is_encoded = record { length = refl; null_count = refl; buffers = rw c.two.ensures (c.block-validity.ensures, (c.block-data.ensures, tt)) };
    fits = fitting (kinds.Bool) (Truth true ∷ Truth false ∷ Null ∷ Truth true ∷ []) tt tt (omega arith) (refl, (refl, (refl, (refl, tt)))) (omega arith);
    indices = tt;
  },
)
