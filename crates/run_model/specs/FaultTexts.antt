-- The text of what stands in the way of reading the words.
use Rattle.std.specs.Prelude.{ℕ, List, codes}
use Rattle.run_model.specs.declared.words.WordsError.{WordsError}
use Rattle.run_model.specs.declared.words.WordsError.TheVariants as error
use Rattle.run_model.specs.promise.FaultTexts.{fault_text}

abbrev pub error_text : WordsError → List ℕ
error_text (error.Words fault audit) = fault_text fault
error_text error.NoMemory = codes "out of memory"
