use Rattle.std.proofs.Common.{rules, refl, arith, pos, negsuc, false, [], ◌∷◌}
use Rattle.data_types.specs.promise.Value.{Whole}
use Rattle.data_types.specs.declared.kind.DataType.TheVariants as kinds
use Rattle.tree_tests.proofs.TestColumns.{fitting}
use Rattle.tree_tests.proofs.column_arrays.decimals.Goals as goal

pub exported-requires : goal.exported-requires
exported-requires g c = (
  kinds.Decimal 5 (pos 2) false,
  Whole (pos 256) ∷ Whole (negsuc 0) ∷ [],
  record {
    is_encoded = record { length = refl; null_count = refl; buffers = rw c.two.ensures (tt, (c.block-data.ensures, tt)) };
    fits = fitting (kinds.Decimal 5 (pos 2) false) (Whole (pos 256) ∷ Whole (negsuc 0) ∷ []) (omega arith, omega arith, search rules) tt (omega arith)
        (refl, (refl, tt)) (omega arith);
    indices = tt;
  },
)
