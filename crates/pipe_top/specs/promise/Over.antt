-- What a run comes to over the bytes of its input: the answer, what the sink got of it, what the tap saw and what was made.
use Rattle.std.specs.Prelude.{◌≡◌, ◌⊎◌, ℕ, Bool, List, true, false, Option, None, Some, IfSome}
use Rattle.run_model.specs.promise.Answer.{Fault, Text, cause_of}
use Rattle.tree_check.specs.promise.Runs.{AtWriting, decides, GotFirst, GotText}
use Rattle.run_model.specs.declared.fault.RunFault.{RunFault}
use Rattle.run_model.specs.declared.fault.RunFault.TheVariants as run
use Rattle.run_model.specs.promise.RunAnswer.{IsAnswer}
use Rattle.pipe_top.specs.promise.Traffic.{IsShown, IsShownInPart, IsTraffic}
use Rattle.stream_face.specs.promise.Shown.{Seen}

-- all records were read, or those before one at fault: a record is refused, or a write failed
abbrev pub is_behind_records : RunFault → Bool
is_behind_records (run.Ragged row found) = true
is_behind_records (run.Field row column) = true
is_behind_records (run.WriteFault taken) = true
is_behind_records _ = false

-- what a run with these words comes to over these bytes; ReadRose and WriteRose say that the source's and the sink's faults rose
pub record RanOver (words : List (List ℕ)) (bytes : List ℕ) (fault : Option RunFault) (taken got : Option (List ℕ))
    (seen shown : Option (List Seen)) (blocks nodes : ℕ) (ReadRose WriteRose : Type 0) : Type 0 where
  -- success: the answer is a text, and the sink got all of it
  pub text : fault ≡ None → GotText (λ t. IsAnswer words bytes (Text t)) taken got
  -- a fault that words and bytes decide is the answer
  pub refused : IfSome fault (λ f. decides (cause_of f) ≡ true → IsAnswer words bytes (Fault f))
  -- after a failed write the answer is a text, and the sink got its first bytes
  pub first : IfSome fault (λ f. AtWriting (cause_of f) (λ count. GotFirst (λ t. IsAnswer words bytes (Text t)) taken got count))
  -- on success the tap was shown each chunk of each link, once and in order, and each after all that it is made of; on a fault the first
  -- ones of each, and nothing where there are no links
  pub shows : fault ≡ None → IsShown words bytes seen shown
  pub shows_some : IfSome fault (λ f. IsShownInPart words bytes seen shown)
  -- on success as many blocks and nodes were made as the links or the tree need
  pub counts : fault ≡ None → IsTraffic words bytes blocks nodes
  -- as many, and each chunk of each link was shown, once and in order, where a record is refused or a write failed
  pub behind : IfSome fault (λ f. is_behind_records f ≡ true → IsTraffic words bytes blocks nodes × IsShown words bytes seen shown)
  -- where neither rose and the answer is a text, it is given, or there was no memory
  pub complete : (text : List ℕ) → IsAnswer words bytes (Text text) → ¬ ReadRose → ¬ WriteRose → (fault ≡ None) ⊎ (fault ≡ Some run.NoMemory)
  -- where it is a fault, it is reported, whatever the sink does
  pub complete_fault : (f : RunFault) → IsAnswer words bytes (Fault f) → ¬ ReadRose → (fault ≡ Some f) ⊎ (fault ≡ Some run.NoMemory)
