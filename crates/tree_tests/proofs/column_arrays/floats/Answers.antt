use Rattle.std.proofs.Common.{refl, arith, inr, [], ◌∷◌}
use Rattle.data_types.specs.promise.Value.{Bits}
use Rattle.data_types.specs.declared.kind.DataType.TheVariants as kinds
use Rattle.tree_tests.proofs.TestColumns.{fitting}
use Rattle.tree_tests.proofs.column_arrays.floats.Goals as goal

pub exported-requires : goal.exported-requires
exported-requires g c = (
  kinds.Float 64,
  Bits 0x3ff8000000000000 ∷ Bits 0xc000000000000000 ∷ [],
  record {
    is_encoded = record { length = refl; null_count = refl; buffers = rw c.two.ensures (tt, (c.block-data.ensures, tt)) };
    fits = fitting (kinds.Float 64) (Bits 0x3ff8000000000000 ∷ Bits 0xc000000000000000 ∷ []) (inr (inr refl)) tt (omega arith) (refl, (refl, tt)) (omega arith);
    indices = tt;
  },
)
