-- The trees of a text keep no more units than it has lines.
use Rattle.std.proofs.Common.{◌≡◌, ◌+◌, ◌≤◌, ℕ, List, [], ◌∷◌, length, map, Option, None, Some, Ok, ap, arith, length-append}
use Rattle.raw_array.specs.promise.Members.{ArrayMembers, ArrayTree, Buffer, Cost, holds, holds_of}
use Rattle.tree_model.specs.promise.TreeCost.{Nodes, no_holds}
use Rattle.raw_schema.specs.promise.Members.{SchemaTree}
use Rattle.tree_text.specs.promise.Answers.{Reads, most_lines}
use Rattle.tree_text.specs.promise.TreeText.{array_node_lines}
use Rattle.tree_text.specs.TreeText.{schema_node_lines, array_lines, buffer_line, released_array, released_schema, schema_lines}
use Rattle.tree_text.proofs.TreeLaws.{cost_le_lines}
use Rattle.unit_pass.specs.declared.pass.TheConstants.{CHUNK, ROOM}

buffers-some : (buffers : List (Option Buffer)) → holds_of buffers ≤ length (map buffer_line buffers)
buffers-some [] = omega arith
buffers-some (None ∷ rest) = omega (arith, buffers-some rest)
buffers-some (Some buffer ∷ rest) = omega (arith, buffers-some rest)

array-some : (own : ArrayMembers) (children dictionaries : ℕ) → 1 + holds own ≤ length (array_node_lines own children dictionaries)
array-some own children dictionaries = omega (arith, buffers-some own.buffers)

module _ (bytes : List ℕ) (schema : SchemaTree) (array : ArrayTree) (reads : Reads bytes (Ok (schema, array))) where
  few-units : Nodes schema + Cost array ≤ most_lines
  few-units =
      let s = cost_le_lines released_schema schema_node_lines no_holds (λ own children dictionaries. omega arith) schema in
      let a = cost_le_lines released_array array_node_lines holds array-some array in
      omega (arith, s, a, ap length reads.1.spelled, length-append (schema_lines schema) (array_lines array), reads.0)

  -- so some are left
  pub units-left : (old new : ℕ) → ROOM ≤ old → new + (Nodes schema + Cost array) ≡ old → CHUNK ≤ new
  units-left old new room drawn = omega (arith, few-units, room, drawn)
