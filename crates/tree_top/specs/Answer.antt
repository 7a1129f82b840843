-- What the program for trees answers: the text of a command, or the first fault of the words, the input, its text, the schema and
-- the array.
use Rattle.std.specs.Prelude.{◌≡◌, ◌<◌, ℕ, nat_lt, Bool, List, length, Option, IfSome}
use Rattle.std.specs.Option.{option_and_then}
pub use Rattle.tree_top.specs.promise.TextOrFault.{Answer, Fault, Text}
use Rattle.tree_check.specs.promise.Runs.{input_limit}
use Rattle.tree_top.specs.promise.Answer.{IsAnswerTo, column_command, command_of}
use Rattle.tree_top.specs.declared.command.Command.{Command}

-- ---- the answer to words and bytes

-- The answer to the words of a command line and the bytes of an input.
abbrev pub TreeAnswer : List (List ℕ) → List ℕ → Answer → Type 0
TreeAnswer words bytes answer = IsAnswerTo (command_of words) bytes answer

-- where the second word may be a column's number
abbrev pub command_of_column : List ℕ → Option ℕ → Option Command
command_of_column word number = option_and_then (column_command word) number

-- ---- the input

-- the bytes are those that are stated, where some are stated
abbrev pub AreBytes : Option (List ℕ) → List ℕ → Type 0
AreBytes told bytes = IfSome told (λ l. l ≡ bytes)

-- an input, stated or not, is too long
abbrev pub IsTooLong : Option (List ℕ) → Type 0
IsTooLong told = (bytes : List ℕ) × AreBytes told bytes × (input_limit < length bytes)
