use Rattle.std.proofs.Common.{refl, arith, false, [], ◌∷◌}
use Rattle.std.specs.Str.{chars, is_utf8}
use lib.Utf8.{encode}
use Rattle.data_types.specs.promise.Value.{Null, Bytes}
use Rattle.data_types.specs.declared.kind.DataType.TheVariants as kinds
use Rattle.tree_tests.proofs.TestColumns.{fitting}
use Rattle.tree_tests.proofs.column_arrays.texts.Goals as goal

pub exported-requires : goal.exported-requires
unfolding is_utf8 chars encode
exported-requires g c = (
  kinds.Utf8 false,
  Bytes (106 ∷ 111 ∷ 101 ∷ []) ∷ Null ∷ Null ∷ Bytes (109 ∷ 97 ∷ 114 ∷ 107 ∷ []) ∷ [],
  record {
    is_encoded = record {
      length = refl;
      null_count = refl;
      buffers = rw c.three.ensures (c.block-validity.ensures, (c.block-offsets.ensures, (c.block-data.ensures, tt)));
    };
    fits = fitting (kinds.Utf8 false) (Bytes (106 ∷ 111 ∷ 101 ∷ []) ∷ Null ∷ Null ∷ Bytes (109 ∷ 97 ∷ 114 ∷ 107 ∷ []) ∷ []) tt tt (omega arith)
        (refl, (refl, (refl, (refl, tt)))) (omega arith);
    indices = tt;
  },
)
