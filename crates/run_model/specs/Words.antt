-- What the words of the command line mean: the matches that `clap` promises for a simple command and the rules on them, or a refusal.
use Rattle.std.specs.Prelude.{◌≡◌, ◌≢◌, ⊤, Bool, true, false, List, [], map, Option, Some, option_map, Err, codes}
use Rattle.std.specs.Option.{option_map_or, unwrap_or}
use Rattle.clap.specs.Words.{App, Row, Rule, Text, all_of, new_app, new_rule}
use Rattle.clap.specs.Simple.{on_top}
use Rattle.clap.specs.declared.builder.action.ArgAction.TheVariants.{Append}
use Rattle.clap.specs.declared.error.kind.ErrorKind.{ErrorKind}
use Rattle.clap.specs.declared.error.kind.ErrorKind.TheVariants.{OutOfMemory}
use Rattle.run_model.specs.declared.words.Words.{Words}
use Rattle.run_model.specs.declared.words.WordsFault.TheVariants.{Refused}
use Rattle.run_model.specs.declared.words.WordsError.{WordsError}
use Rattle.run_model.specs.declared.words.WordsError.TheVariants as error
use Rattle.run_model.specs.promise.Words.{Options, ruled}

-- ---- parts of what is promised

-- words that are no options, as many as there are
abbrev pub words_rule : Text → Rule
words_rule name = record (new_rule name) { action = Some Append }

-- the words are those after the program's name, and there is no help flag
abbrev pub bare_command : App
bare_command = on_top (λ s. record s { no_binary_name = true; disable_help_flag = true }) (new_app (codes "arrowpipe"))

abbrev pub texts_in : Text → List Row → List Text
texts_in id rows = unwrap_or (all_of id rows) []

-- the mark for null: the text of `--null`, and the empty text without it
abbrev pub mark_of : Options → Text
mark_of options = unwrap_or options.null []

abbrev pub asks_audit : Option Options → Bool
asks_audit taken = option_map_or (λ o. o.audit) taken false

-- ---- the program's values

abbrev pub options_of : Words → Options
options_of w = record {
  schema = option_map (λ s. s.now) w.schema;
  batch = w.batch;
  workers = w.workers;
  audit = w.audit;
  check = w.check;
  selftest = w.selftest;
  null = option_map (λ s. s.now) w.null;
  ahead = w.ahead;
  stages = map (λ s. s.now) w.stages.items;
}

-- the error is the fault, and tells whether the audit is asked for; or memory ran out
abbrev pub Explains : Option Options → WordsError → Type 0
Explains taken error.NoMemory = ⊤
Explains taken (error.Words fault audit) = (ruled taken ≡ Err fault) × (audit ≡ asks_audit taken)

-- what stands for an error of clap: out of memory alone is no fault of the words
abbrev pub ErrorOf : ErrorKind → WordsError → Type 0
ErrorOf kind error.NoMemory = kind ≡ OutOfMemory
ErrorOf kind (error.Words fault audit) = (kind ≢ OutOfMemory) × (fault ≡ Refused) × (audit ≡ false)
