-- What a run comes to over the bytes of its input: the answer, what the sink got of it, and what was made.
use Rattle.std.specs.Prelude.{◌≡◌, ◌⊎◌, ℕ, List, true, Option, None, Some, IfSome}
use Rattle.tree_top.specs.promise.TextOrFault.{Answer, Fault, Text}
use Rattle.tree_check.specs.promise.Runs.{AtWriting, GotFirst, GotText, decides}
use Rattle.tree_top.specs.promise.Answer.{CountsCommand, IsAnswerTo}
use Rattle.tree_top.specs.promise.Faults.{cause_of}
use Rattle.tree_top.specs.declared.command.Command.{Command}
use Rattle.tree_top.specs.declared.fault.TreeRunFault.{TreeRunFault}
use Rattle.tree_top.specs.declared.fault.TreeRunFault.TheVariants as run

-- ReadRose and WriteRose say that the source's and the sink's faults rose
pub record RanOver (command : Option Command) (bytes : List ℕ) (fault : Option TreeRunFault) (taken got : Option (List ℕ))
    (old_blocks old_nodes blocks nodes : ℕ) (ReadRose WriteRose : Type 0) : Type 0 where
  -- success: the answer is a text, and the sink got all of it
  pub text : fault ≡ None → GotText (λ t. IsAnswerTo command bytes (Text t)) taken got
  -- a fault that words and bytes decide is the answer
  pub refused : IfSome fault (λ f. decides (cause_of f) ≡ true → IsAnswerTo command bytes (Fault f))
  -- after a failed write the answer is a text, and the sink got its first bytes
  pub first : IfSome fault (λ f. AtWriting (cause_of f) (λ count. GotFirst (λ t. IsAnswerTo command bytes (Text t)) taken got count))
  -- on success as many blocks and nodes were made as the command makes
  pub counts : fault ≡ None → IfSome command (λ c. CountsCommand c bytes old_blocks old_nodes blocks nodes)
  -- where neither rose and the answer is a text, it is given, or there was no memory
  pub complete : (text : List ℕ) → IsAnswerTo command bytes (Text text) → ¬ ReadRose → ¬ WriteRose → (fault ≡ None) ⊎ (fault ≡ Some run.NoMemory)
  -- where it is a fault, it is reported, whatever the sink does
  pub complete_fault : (f : TreeRunFault) → IsAnswerTo command bytes (Fault f) → ¬ ReadRose → (fault ≡ Some f) ⊎ (fault ≡ Some run.NoMemory)
