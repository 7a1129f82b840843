-- The type of a column is one of an array that is there.
use Rattle.data_types.specs.promise.Table.{Kind, Flat, Dict, Columns}
use Rattle.tree_model.specs.promise.TreeParts.{IsLive}
use Rattle.data_types.specs.promise.ColumnKinds.{type_of_kind}

pub live-type : (kind : Kind) → IsLive (type_of_kind kind)
live-type (Flat kind) = tt
live-type (Dict kind) = tt
live-type (Columns _) = tt
