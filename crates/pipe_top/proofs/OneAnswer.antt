-- The words ask for one thing, and so there is one answer.
use Rattle.std.proofs.Common.{◌≡◌, ◌∙◌, ℕ, Bool, true, false, List, [], Option, None, Some, Result, Ok, Err, ap, refl, subst, sym}
use Rattle.stage_model.specs.declared.stage.StageText.{StageText}
use Rattle.stage_plan.specs.promise.Types.{Reads}
use Rattle.stage_plan.specs.declared.fault.TypesFault.{TypesFault}
use Rattle.stage_plan.specs.declared.types.TypeEntry.{TypeEntry}
use Rattle.csv_model.specs.promise.Reading.{records_of}
use Rattle.tree_check.specs.promise.Checks.{Checked, ChecksTo}
use Rattle.run_model.specs.promise.Words.{Options, words_of}
use Rattle.run_model.specs.declared.words.WordsFault.{WordsFault}
use Rattle.run_model.specs.promise.Answer.{Answer, EntriesAsk, Fault, OptionsAsk, Request, StagesAsk, Table, Task, TaskIs, Tree, asked_by, meant_by}
use Rattle.run_model.specs.promise.Answer.{request_with, stages_from, table_of}
use Rattle.run_model.specs.declared.fault.RunFault.{RunFault}
use Rattle.run_model.specs.declared.fault.RunFault.TheVariants as run
use Rattle.tree_check.specs.promise.Runs.{is_too_long}
use Rattle.run_model.specs.promise.RunAnswer.{AnswersWithin, IsAnswer, IsAnswerTo, answer_of_records}
use Rattle.run_model.specs.RunAnswer.{answer_of_check}

module _ (some : (text : List ℕ) → (read : Result (List TypeEntry) TypesFault) × Reads text read)
    (alone : (text : List ℕ) (first second : Result (List TypeEntry) TypesFault) → Reads text first → Reads text second → first ≡ second) where
  some-entries : (schema : Option (List ℕ)) → (asked : Result (List TypeEntry) RunFault) × EntriesAsk schema asked
  some-entries None = (Ok [], (Ok [], refl, refl))
  some-entries (Some text) = (asked_by (some text).0, ((some text).0, (some text).1, refl))

  one-entries : (schema : Option (List ℕ)) (one other : Result (List TypeEntry) RunFault) → EntriesAsk schema one → EntriesAsk schema other → one ≡ other
  one-entries None one other is also = is.2 ∙ ap asked_by (is.1 ∙ sym also.1) ∙ sym also.2
  one-entries (Some text) one other is also = is.2 ∙ ap asked_by (alone text is.0 also.0 is.1 also.1) ∙ sym also.2

  some-request : (options : Options) (stages : Result (List StageText) RunFault) → (asked : Result Request RunFault) × StagesAsk options stages asked
  some-request options (Ok stages) =
      let entries = some-entries options.schema in
      (request_with options stages entries.0, (entries.0, entries.1, refl))
  some-request options (Err fault) = (Err fault, refl)

  one-request : (options : Options) (stages : Result (List StageText) RunFault) (one other : Result Request RunFault) → StagesAsk options stages one
      → StagesAsk options stages other → one ≡ other
  one-request options (Ok stages) one other is also =
      is.2 ∙ ap (request_with options stages) (one-entries options.schema is.0 also.0 is.1 also.1) ∙ sym also.2
  one-request options (Err fault) one other is also = is ∙ sym also

  some-task : (check : Bool) (options : Options) → (asked : Result Task RunFault) × TaskIs check options asked
  some-task true options = (Ok Tree, refl)
  some-task false options = let request = some-request options (stages_from 1 options.stages) in (table_of request.0, (request.0, request.1, refl))

  one-task : (check : Bool) (options : Options) (one other : Result Task RunFault) → TaskIs check options one → TaskIs check options other → one ≡ other
  one-task true options one other is also = is ∙ sym also
  one-task false options one other is also =
      is.2 ∙ ap table_of (one-request options (stages_from 1 options.stages) is.0 also.0 is.1 also.1) ∙ sym also.2

  some-asked : (options : Result Options WordsFault) → (asked : Result Task RunFault) × OptionsAsk options asked
  some-asked (Ok options) = some-task options.check (meant_by options.selftest options)
  some-asked (Err fault) = (Err (run.Words fault), refl)

  one-asked : (options : Result Options WordsFault) (one other : Result Task RunFault) → OptionsAsk options one → OptionsAsk options other → one ≡ other
  one-asked (Ok options) one other is also = one-task options.check (meant_by options.selftest options) one other is also
  one-asked (Err fault) one other is also = is ∙ sym also

  module _ (some-check : (bytes : List ℕ) → (checked : Checked) × ChecksTo bytes checked)
      (one-check : (bytes : List ℕ) (one other : Checked) → ChecksTo bytes one → ChecksTo bytes other → one ≡ other) where
    some-within : (long : Bool) (task : Task) (bytes : List ℕ) → (answer : Answer) × AnswersWithin long task bytes answer
    some-within true task bytes = (Fault run.InputTooLong, refl)
    some-within false (Table request) bytes = (answer_of_records request (records_of bytes), refl)
    some-within false Tree bytes = let check = some-check bytes in (answer_of_check check.0, (check.0, check.1, refl))

    one-within : (long : Bool) (task : Task) (bytes : List ℕ) (one other : Answer) → AnswersWithin long task bytes one
        → AnswersWithin long task bytes other → one ≡ other
    one-within true task bytes one other is also = is ∙ sym also
    one-within false (Table request) bytes one other is also = is ∙ sym also
    one-within false Tree bytes one other is also = is.2 ∙ ap answer_of_check (one-check bytes is.0 also.0 is.1 also.1) ∙ sym also.2

    some-answer-to : (asked : Result Task RunFault) (bytes : List ℕ) → (answer : Answer) × IsAnswerTo asked bytes answer
    some-answer-to (Ok task) bytes = some-within (is_too_long bytes) task bytes
    some-answer-to (Err fault) bytes = (Fault fault, refl)

    one-answer-to : (asked : Result Task RunFault) (bytes : List ℕ) (one other : Answer) → IsAnswerTo asked bytes one → IsAnswerTo asked bytes other
        → one ≡ other
    one-answer-to (Ok task) bytes one other is also = one-within (is_too_long bytes) task bytes one other is also
    one-answer-to (Err fault) bytes one other is also = is ∙ sym also

    pub some-answer : (words : List (List ℕ)) (bytes : List ℕ) → (answer : Answer) × IsAnswer words bytes answer
    some-answer words bytes =
        let asked = some-asked (words_of words) in
        let answer = some-answer-to asked.0 bytes in
        (answer.0, record { asked = asked.0; asks = asked.1; is = answer.1 })

    pub one-answer : (words : List (List ℕ)) (bytes : List ℕ) (one other : Answer) → IsAnswer words bytes one → IsAnswer words bytes other → one ≡ other
    one-answer words bytes one other is also =
        one-answer-to also.asked bytes one other
        (subst (λ a. IsAnswerTo a bytes one) (one-asked (words_of words) is.asked also.asked is.asks also.asks) is.is) also.is
