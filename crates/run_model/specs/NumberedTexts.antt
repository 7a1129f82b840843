-- What is written of a fault: a text with at most two numbers in it, or the fault of a tree.
use Rattle.std.specs.Prelude.{ℕ, ◌++◌, List, [], Option, None, Some, decimal}
use Rattle.tree_check.specs.promise.FaultTexts.{tree_fault_text}
use Rattle.run_model.specs.declared.fault_text.NumberedText.{NumberedText}
use Rattle.run_model.specs.declared.fault_text.Told.{Told}
use Rattle.run_model.specs.declared.fault_text.Told.TheVariants as told

-- the digits of a number, where there is one
abbrev pub digits_of : Option ℕ → List ℕ
digits_of None = []
digits_of (Some n) = decimal n

abbrev pub numbered_text : NumberedText → List ℕ
numbered_text said = said.front.now ++ (digits_of said.first ++ (said.middle.now ++ (digits_of said.second ++ said.back.now)))

abbrev pub message_text : Told → List ℕ
message_text (told.Text said) = numbered_text said
message_text (told.Tree fault) = tree_fault_text fault
