-- What an answer says of a text of trees.
use Rattle.std.specs.Prelude.{◌≡◌, Result, Ok, Err}
use Rattle.raw_schema.specs.promise.Members.{SchemaTree}
use Rattle.raw_array.specs.promise.Members.{ArrayTree}
use Rattle.tree_text.specs.declared.fault.TextFault.{TextFault}
use Rattle.tree_text.specs.declared.fault.TextFault.TheVariants.{Line, TooManyLines, NoMemory}

-- The answer is this one, or out of memory.
abbrev pub Gives : Result (SchemaTree × ArrayTree) TextFault → Result (SchemaTree × ArrayTree) TextFault → Type 0
Gives (Ok trees) read = read ≡ Ok trees
Gives (Err NoMemory) read = Unit {0}
Gives (Err (Line number)) read = read ≡ Err (Line number)
Gives (Err TooManyLines) read = read ≡ Err TooManyLines
