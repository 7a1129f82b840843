-- What a text is, and which answers say so.
use Rattle.std.specs.Prelude.{ℕ, ◌<◌, ◌≤◌, List, length, Result, Ok, Err}
use Rattle.std.specs.Str.Lines.{lines}
use Rattle.raw_schema.specs.promise.Members.{SchemaTree}
use Rattle.raw_array.specs.promise.Members.{ArrayTree}
use Rattle.tree_text.specs.declared.fault.TextFault.{TextFault}
use Rattle.tree_text.specs.declared.fault.TextFault.TheVariants.{Line, TooManyLines, NoMemory}
use Rattle.tree_text.specs.promise.TreeText.{TreeIs}
use Rattle.tree_text.specs.promise.Standing.{TreeLineIs}

-- the most lines of a text
abbrev pub most_lines : ℕ
most_lines = 1048576

-- Two trees, or the first fault: too many lines come before any other.
abbrev pub Reads : List ℕ → Result (SchemaTree × ArrayTree) TextFault → Type 0
Reads bytes (Ok trees) = (length (lines bytes) ≤ most_lines) × TreeIs bytes trees.0 trees.1
Reads bytes (Err (Line number)) = (length (lines bytes) ≤ most_lines) × TreeLineIs bytes number
Reads bytes (Err TooManyLines) = most_lines < length (lines bytes)
Reads bytes (Err NoMemory) = ⊥
