-- What comes of carrying out what the words ask for, over the bytes of the input.
use Rattle.std.specs.Prelude.{◌≡◌, ℕ, List, true, Option, Result, Ok, IfErr, IfOk, OnErr, OnOk}
use Rattle.run_model.specs.promise.Answer.{Fault, Task, Text}
use Rattle.run_model.specs.Outcomes.{AtWriteFault, is_decided}
use Rattle.run_model.specs.declared.fault.RunFault.{RunFault}
use Rattle.run_model.specs.promise.RunAnswer.{IsAnswerTo}
use Rattle.tree_check.specs.promise.Runs.{GotFirst, GotText}
use Rattle.pipe_top.specs.promise.Traffic.{CountsTask, ShowsAsked, ShowsTask}
use Rattle.stream_face.specs.promise.Shown.{Seen}
use Rattle.pipe_top.specs.promise.Over.{is_behind_records}

-- what it comes to to carry out what is asked for over these bytes
pub record CarriedOver (asked : Result Task RunFault) (bytes : List ℕ) (result : Result (Unit {0}) RunFault) (taken got : Option (List ℕ))
    (seen shown : Option (List Seen)) (old_blocks old_nodes blocks nodes : ℕ) : Type 0 where
  -- on success the answer is a text, and the sink got all of it
  pub text : OnOk result (GotText (λ t. IsAnswerTo asked bytes (Text t)) taken got)
  -- a fault that words and bytes decide is the answer
  pub refused : IfErr result (λ fault. is_decided fault ≡ true → IsAnswerTo asked bytes (Fault fault))
  -- after a failed write the sink has the first bytes of the text
  pub first : IfErr result (λ fault. AtWriteFault fault (λ count. GotFirst (λ t. IsAnswerTo asked bytes (Text t)) taken got count))
  -- on success as many blocks and nodes were made as the task needs, and each chunk of each link was shown
  pub counts : OnOk result (IfOk asked (λ task. CountsTask task bytes old_blocks old_nodes blocks nodes))
  pub shows : OnOk result (IfOk asked (λ task. ShowsTask task bytes seen shown))
  -- as many and each where a record is refused or a write failed
  pub behind : IfErr result (λ fault. is_behind_records fault ≡ true → (task : Task) × (asked ≡ Ok task)
      × CountsTask task bytes old_blocks old_nodes blocks nodes × ShowsTask task bytes seen shown)
  -- on a fault the first ones of each link
  pub shows_some : OnErr result (ShowsAsked asked bytes seen shown)
