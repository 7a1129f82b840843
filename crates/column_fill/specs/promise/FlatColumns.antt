-- Which columns a new one of their items can be made of ("Arrow Columnar Format", "Physical memory layout").
use Rattle.std.specs.Prelude.{Bool, false}
use Rattle.data_types.specs.promise.Kinds.{is_flat}
use Rattle.data_types.specs.promise.KindTrees.{KindTree}
use Rattle.tree_model.specs.promise.TreeData.{Released, Live, absent, present}

-- values of a flat column kind, without a dictionary
abbrev pub is_flat_column : KindTree → Bool
is_flat_column Released = false
is_flat_column (Live kind kids absent) = is_flat kind
is_flat_column (Live kind kids (present dict)) = false
