-- A line for each row of a chunk, or the first fault of its schema and of the chunk.
use Rattle.data_types.specs.promise.Table.{Row}
use Rattle.data_types.specs.promise.Value.{Value, values, Fields}
use Rattle.layout_rules.specs.promise.Values.{values_of}
use Rattle.raw_array.specs.promise.Members.{ArrayTree}
use Rattle.raw_schema.specs.promise.Members.{SchemaTree}
use Rattle.data_types.specs.promise.ValueTexts.{lines_text}
use Rattle.tree_top.specs.promise.TextOrFault.{Answer, Text}
use Rattle.tree_top.specs.promise.ChunkAnswer.{ChunkAnswer}

-- a row as a value: the struct of its fields
abbrev pub row_value : Row → Value
row_value row = Fields (values row)

abbrev pub ForeignAnswer : SchemaTree → ArrayTree → Answer → Type 0
ForeignAnswer schema array answer = ChunkAnswer (λ typed array. Text (lines_text (values_of typed array))) schema array answer
