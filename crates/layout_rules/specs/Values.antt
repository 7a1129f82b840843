-- The item of a type.
use Rattle.std.specs.Prelude.{ℕ, List}
use Rattle.data_types.specs.declared.kind.DataType.{DataType}
use Rattle.data_types.specs.promise.Storage.{storage_of}
use Rattle.data_types.specs.promise.Value.{Value}
use Rattle.raw_array.specs.promise.Members.{ArrayMembers, ArrayTree}
use Rattle.layout_rules.specs.promise.Values.{Reader, stored_item}

-- the same of a type
abbrev pub item : DataType → List Reader → ArrayMembers → List ArrayTree → ℕ → Value
item kind kids a children i = stored_item (storage_of kind) kids a children i
