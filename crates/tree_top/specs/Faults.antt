-- The cause of a fault, and its status.
use Rattle.std.specs.Prelude.{ℕ, Bool, Option, None, Some, Result, Ok, Err}
use Rattle.tree_top.specs.declared.fault.TreeRunFault.{TreeRunFault}
use Rattle.tree_check.specs.promise.Runs.{AtWriting, decides, is_writing}
use Rattle.tree_top.specs.promise.Faults.{cause_of}

-- ---- causes

-- the fault of a result
abbrev pub fault_in : Result (Unit {0}) TreeRunFault → Option TreeRunFault
fault_in (Ok done) = None
fault_in (Err fault) = Some fault

-- ---- what a fault's cause says of it

abbrev pub is_decided : TreeRunFault → Bool
is_decided fault = decides (cause_of fault)

abbrev pub is_write_fault : TreeRunFault → Bool
is_write_fault fault = is_writing (cause_of fault)

-- this many bytes were taken before a write failed
abbrev pub AtWriteFault : TreeRunFault → (ℕ → Type 0) → Type 0
AtWriteFault fault P = AtWriting (cause_of fault) P
