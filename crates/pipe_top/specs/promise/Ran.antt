-- What a run comes to: its answer, how far it read, what it left outside, and what it told.
use Rattle.std.specs.Prelude.{◌≡◌, ◌⊎◌, ◌+◌, ℕ, List, true, false, Option, None, Some, IfSome, Ok, Err}
use Rattle.std.specs.Io.KnownBytes.{Keeps}
use Rattle.edge_io.specs.promise.Edge.{LosesWithin, Rose}
use Rattle.run_model.specs.promise.Words.{audit_of, made_of}
use Rattle.tree_check.specs.promise.Runs.{AtWriting, IsRead, ReadFor, decides_early, input_limit, is_writing, status_of}
use Rattle.run_model.specs.promise.Answer.{Asks, Tree, cause_of}
use Rattle.run_model.specs.promise.MemoryFaults.{has_memory_inside}
use Rattle.run_model.specs.promise.Diagnostics.{Told, audit_if}
use Rattle.run_model.specs.promise.RunAnswer.{AreInput}
use Rattle.run_model.specs.declared.fault.RunFault.{RunFault}
use Rattle.run_model.specs.declared.fault.RunFault.TheVariants as run
use Rattle.run_model.specs.declared.outcome.Outcome.{Outcome}
use Rattle.stream_face.specs.promise.Shown.{Seen}
use Rattle.pipe_top.specs.promise.Over.{RanOver}

-- what contracts see of the source, of both sinks and of the tap
pub record Outside : Type 0 where
  pub left : Option (List ℕ)
  pub read_faults : ℕ
  pub taken : Option (List ℕ)
  pub write_faults : ℕ
  pub told : Option (List ℕ)
  pub tell_faults : ℕ
  pub seen : Option (List Seen)

-- what a run with these words comes to, by what is outside before and after it
pub record Ran (words : List (List ℕ)) (old new : Outside) (outcome : Outcome) : Type 0 where
  -- Of the bytes of one input all of this is so: those that the source states or that are made in its place; where the source
  -- states none, of some bytes. Success: the answer is a text, and all of it is in the sink. A fault of the words or of the input
  -- is exactly the answer's; after a failed write the sink has the first bytes of the text. The tap was shown each chunk of each
  -- link, once and in order, or the first ones, and as many blocks and nodes were made as the links or the tree need. Where no
  -- fault rises the answer is given, or there was no memory.
  pub over : (bytes : List ℕ) × AreInput words old.left bytes
      × RanOver words bytes outcome.fault old.taken new.taken old.seen new.seen outcome.audit.blocks outcome.audit.nodes
      (Rose old.read_faults new.read_faults) (Rose old.write_faults new.write_faults)
  -- On success the source was read to its end, or rows were made in its place.
  pub text_read_to_end : outcome.fault ≡ None → IsRead (made_of words) old.left new.left
  -- So it was on a fault that is found behind that; where the input is too long, just past the most bytes that are read.
  pub fault_read : IfSome outcome.fault (λ fault. ReadFor (cause_of fault) (made_of words) old.left new.left)
  -- The words and the texts among them are refused exactly where they are at fault, whatever the source states, which is then
  -- as before.
  pub refused_early : (fault : RunFault) → Asks words (Err fault) → (outcome.fault ≡ Some fault) ⊎ (outcome.fault ≡ Some run.NoMemory)
  pub refused_early_only : IfSome outcome.fault (λ fault. decides_early (cause_of fault) ≡ true → Asks words (Err fault))
  pub refused_unread : (fault : RunFault) → Asks words (Err fault) → Keeps old.left new.left
  pub refused_unfailed : (fault : RunFault) → Asks words (Err fault) → new.read_faults ≡ old.read_faults
  -- Where rows are made in place of an input, the source is as before, whatever the run comes to.
  pub made_unread : IfSome (made_of words) (λ rows. Keeps old.left new.left)
  pub made_unfailed : IfSome (made_of words) (λ rows. new.read_faults ≡ old.read_faults)
  -- A read fails only where no rows are made and the source's faults rose, and a write where the sink's did.
  pub read_fault : outcome.fault ≡ Some run.ReadFault → (made_of words ≡ None) × Rose old.read_faults new.read_faults
  pub write_fault : IfSome outcome.fault (λ fault. AtWriting (cause_of fault) (λ taken. Rose old.write_faults new.write_faults))
  -- After a fault that is no failed write the sink is as before.
  pub no_memory : outcome.fault ≡ Some run.NoMemory → Keeps old.taken new.taken
  pub unwritten : IfSome outcome.fault (λ fault. is_writing (cause_of fault) ≡ false → Keeps old.taken new.taken)
  -- Out of memory is a fault of its own: no other fault has one inside it.
  pub memory_alone : IfSome outcome.fault (λ fault. has_memory_inside fault ≡ false)
  -- The status is a function of the fault. Whatever the run comes to, the source has lost its first bytes, at most one past the most
  -- that are read.
  pub status : outcome.status ≡ status_of cause_of outcome.fault
  pub prefix : LosesWithin old.left new.left (input_limit + 1)
  -- Where the words are refused or a tree is checked, the tap saw nothing.
  pub unshown_early : (fault : RunFault) → Asks words (Err fault) → new.seen ≡ old.seen
  pub unshown_check : Asks words (Ok Tree) → new.seen ≡ old.seen
  -- Nothing is left.
  pub audit : outcome.audit.left ≡ 0
  -- The sink of diagnostics took the fault's line and then the audit's where the words ask for it and aren't refused, or the first bytes
  -- of that where its own faults rose. Without memory the audit's line may be missing.
  pub diagnostics : Told old.told new.told old.tell_faults new.tell_faults outcome.fault (audit_if (audit_of words) outcome.audit)
