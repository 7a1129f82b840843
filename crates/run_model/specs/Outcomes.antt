-- What a fault's cause says of it, and what the program has read of the words.
use Rattle.std.specs.Prelude.{ℕ, Bool, List, Option, None, Some, Result, Ok, Err, Vec, ⊤}
use Rattle.std.specs.Global.{Global}
use Rattle.stage_plan.specs.declared.types.TypeEntry.{TypeEntry}
use Rattle.run_model.specs.promise.Answer.{Request, Task, Table, Tree, cause_of}
use Rattle.tree_check.specs.promise.Runs.{AtWriting, decides, decides_early, is_writing}
use Rattle.run_model.specs.declared.request.Request.{Request as AsksFor}
use Rattle.run_model.specs.declared.asked.Task.{Task as AsksTask}
use Rattle.run_model.specs.declared.asked.Task.TheVariants as tasks
use Rattle.run_model.specs.declared.fault.RunFault.{RunFault}

-- ---- what a fault's cause says of it

abbrev pub is_decided : RunFault → Bool
is_decided fault = decides (cause_of fault)

abbrev pub is_early : RunFault → Bool
is_early fault = decides_early (cause_of fault)

abbrev pub is_write_fault : RunFault → Bool
is_write_fault fault = is_writing (cause_of fault)

-- this many bytes were taken before a write failed
abbrev pub AtWriteFault : RunFault → (ℕ → Type 0) → Type 0
AtWriteFault fault P = AtWriting (cause_of fault) P

-- ---- what the program has read of the words

-- what the program has read, as the definitions see it
abbrev pub entries_asked : Result (Vec TypeEntry Global) RunFault → Result (List TypeEntry) RunFault
entries_asked (Ok entries) = Ok entries.items
entries_asked (Err fault) = Err fault

-- neither the number of workers nor that of the batches ahead changes an answer
abbrev pub request_of : AsksFor → Request
request_of asked = record { entries = asked.entries.items; stages = asked.stages.items; batch = asked.batch; mark = asked.mark }

abbrev pub request_asked : Result AsksFor RunFault → Result Request RunFault
request_asked (Ok asked) = Ok (request_of asked)
request_asked (Err fault) = Err fault

-- what the program has read of the words, as the definitions see it
abbrev pub task_of : AsksTask → Task
task_of (tasks.Table request) = Table (request_of request)
task_of tasks.Tree = Tree

abbrev pub asked_of : Result AsksTask RunFault → Result Task RunFault
asked_of (Ok asked) = Ok (task_of asked)
asked_of (Err fault) = Err fault

-- what holds of the request for a table
abbrev pub IfTable : AsksTask → (AsksFor → Type 0) → Type 0
IfTable (tasks.Table request) P = P request
IfTable tasks.Tree P = ⊤

-- the fault of a result
abbrev pub fault_in : Result Unit RunFault → Option RunFault
fault_in (Ok done) = None
fault_in (Err fault) = Some fault
