-- What is answered to a chunk: the first fault of its schema and of the chunk, or else what a command says of it.
use Rattle.std.specs.Prelude.{◌≡◌, Result}
use Rattle.data_types.specs.promise.KindTrees.{KindTree}
use Rattle.layout_rules.specs.promise.Walk.{first_chunk_fault}
use Rattle.raw_array.specs.promise.Members.{ArrayTree}
use Rattle.raw_schema.specs.promise.Members.{SchemaTree}
use Rattle.schema_check.specs.promise.SchemaAnswers.{FirstFault, SchemaReads}
use Rattle.tree_top.specs.promise.Refusals.{layout_told, schema_told}
use Rattle.tree_top.specs.promise.TextOrFault.{Answer, by, unless}

-- The schema is read first, and then the array is asked to be a lawful table without null rows. `said` is what a command says of an array of
-- these kinds.
abbrev pub ChunkAnswer : (KindTree → ArrayTree → Answer) → SchemaTree → ArrayTree → Answer → Type 0
ChunkAnswer said schema array answer = (read : Result KindTree FirstFault) × SchemaReads schema read
    × (answer ≡ by schema_told read (λ typed. unless layout_told (first_chunk_fault typed array) (said typed array)))
