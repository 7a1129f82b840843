-- A line for each row of a chunk: the number of its first column that isn't null, and the value there; or the first fault of the schema,
-- of the chunk, and of the number of its columns and rows. It depends on the rows alone, whatever union they are made.
use Rattle.std.specs.Prelude.{Bool, length}
use Rattle.layout_rules.specs.promise.Values.{rows_of, tree_items}
use Rattle.raw_array.specs.promise.Members.{ArrayTree}
use Rattle.raw_schema.specs.promise.Members.{SchemaTree}
use Rattle.tree_model.specs.promise.TreeParts.{children_of}
use Rattle.union_cols.specs.promise.Tags.{tag_fault, tagged_items}
use Rattle.tree_top.specs.promise.ChunkAnswer.{ChunkAnswer}
use Rattle.tree_top.specs.promise.TextOrFault.{Answer, Text, unless}
use Rattle.tree_top.specs.promise.UnionAnswer.{items_text}
use Rattle.tree_top.specs.declared.fault.TreeRunFault.TheVariants as run

-- the columns and the rows may not be too many
abbrev pub TagAnswer : Bool → SchemaTree → ArrayTree → Answer → Type 0
TagAnswer dense schema array answer =
    ChunkAnswer (λ typed array.
    unless run.Tag (tag_fault dense (length (children_of array)) (tree_items array))
    (Text (items_text (tagged_items (rows_of typed array))))) schema array answer
