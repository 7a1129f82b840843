-- What a run comes to: its answer, how far it read, what it left outside, and what it told.
use Rattle.std.specs.Prelude.{◌≡◌, ◌↔◌, ◌+◌, ℕ, List, false, Option, None, Some, IfSome}
use Rattle.std.specs.Io.KnownBytes.{IsAtEnd, Keeps}
use Rattle.edge_io.specs.promise.Edge.{LosesWithin, Rose}
use Rattle.tree_check.specs.promise.Runs.{AtWriting, ReadFor, Took, input_limit, is_writing, status_of}
use Rattle.tree_top.specs.promise.Answer.{command_of}
use Rattle.tree_top.specs.promise.Faults.{cause_of, has_memory_inside}
use Rattle.tree_top.specs.promise.Over.{RanOver}
use Rattle.tree_top.specs.promise.Diagnostics.{status_line}
use Rattle.tree_top.specs.declared.fault.TreeRunFault.TheVariants as run
use Rattle.tree_top.specs.declared.outcome.TreeOutcome.{TreeOutcome}

-- what contracts see of the source and of both sinks
pub record Outside : Type 0 where
  pub left : Option (List ℕ)
  pub read_faults : ℕ
  pub taken : Option (List ℕ)
  pub write_faults : ℕ
  pub told : Option (List ℕ)
  pub tell_faults : ℕ

-- what a run with these words (`args`) comes to, by what is outside before and after it
pub record Ran (args : List (List ℕ)) (old new : Outside) (outcome : TreeOutcome) : Type 0 where
  -- Of the bytes of one input all of this is so: those that the source states; where it states none, of some bytes. Success: the
  -- answer is a text, and all of it is in the sink. A fault of the words or of the input is exactly the answer's; after a failed
  -- write the sink has the first bytes of the text. As many blocks and nodes were made as the command makes. Where no fault
  -- rises the answer is given, or there was no memory.
  pub over : (bytes : List ℕ) × IfSome old.left (λ stated. stated ≡ bytes)
      × RanOver (command_of args) bytes outcome.fault old.taken new.taken 0 0 outcome.audit.blocks outcome.audit.nodes
      (Rose old.read_faults new.read_faults) (Rose old.write_faults new.write_faults)
  -- On success the source was read to its end.
  pub read_to_end : outcome.fault ≡ None → IsAtEnd new.left
  -- So it was on a fault that is found behind that; where the input is too long, just past the most bytes that are read.
  pub fault_read : IfSome outcome.fault (λ fault. ReadFor (cause_of fault) None old.left new.left)
  -- The words are refused exactly where they aren't a command, and the source is then as before.
  pub words : (outcome.fault ≡ Some run.Words) ↔ (command_of args ≡ None)
  pub words_unread : command_of args ≡ None → Keeps old.left new.left
  pub words_unfailed : command_of args ≡ None → new.read_faults ≡ old.read_faults
  -- A read fails only where the source's faults rose, and a write where the sink's did.
  pub read_fault : outcome.fault ≡ Some run.ReadFault → Rose old.read_faults new.read_faults
  pub write_fault : IfSome outcome.fault (λ fault. AtWriting (cause_of fault) (λ taken. Rose old.write_faults new.write_faults))
  -- After a fault that is no failed write the sink is as before.
  pub unwritten : IfSome outcome.fault (λ fault. is_writing (cause_of fault) ≡ false → Keeps old.taken new.taken)
  -- Out of memory is a fault of its own: no other fault has one inside it.
  pub memory_alone : IfSome outcome.fault (λ fault. has_memory_inside fault ≡ false)
  -- The status is a function of the fault. Whatever the run comes to, the source has lost its first bytes, at most one past the most
  -- that are read.
  pub status : outcome.status ≡ status_of cause_of outcome.fault
  pub prefix : LosesWithin old.left new.left (input_limit + 1)
  -- Nothing is left.
  pub audit : outcome.audit.left ≡ 0
  -- The sink of diagnostics took the fault's line, or the first bytes of it where its own faults rose, and nothing without one.
  pub diagnostics : Took old.told new.told old.tell_faults new.tell_faults (status_line outcome.fault)
