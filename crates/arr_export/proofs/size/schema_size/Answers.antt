use Rattle.arr_export.proofs.Sizes.{flat-depth, flat-size, schema-nodes}
use Rattle.arr_export.proofs.size.schema_size.Goals as goal

pub returns : goal.returns
returns c = record { nodes = schema-nodes; flat_nodes = flat-size; flat_depth = flat-depth }
