use Rattle.std.proofs.Common.{refl, arith, inl, inr, pos, true, [], ◌∷◌}
use Rattle.data_types.specs.promise.Value.{Null, Whole}
use Rattle.data_types.specs.declared.kind.DataType.TheVariants as kinds
use Rattle.tree_tests.proofs.TestColumns.{fitting}
use Rattle.tree_tests.proofs.column_arrays.numbers.Goals as goal

pub exported-requires : goal.exported-requires
exported-requires g c = (
  kinds.Int 32 true,
  Whole (pos 1) ∷ Null ∷ Whole (pos 2) ∷ Whole (pos 4) ∷ Whole (pos 8) ∷ [],
  record {
    is_encoded = record { length = refl; null_count = refl; buffers = rw c.two.ensures (c.block-validity.ensures, (c.block-data.ensures, tt)) };
    fits = fitting (kinds.Int 32 true) (Whole (pos 1) ∷ Null ∷ Whole (pos 2) ∷ Whole (pos 4) ∷ Whole (pos 8) ∷ []) (inr (inr (inl refl))) tt (omega arith)
        (refl, (refl, (refl, (refl, (refl, tt))))) (omega arith);
    indices = tt;
  },
)
