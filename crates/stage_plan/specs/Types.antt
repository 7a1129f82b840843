-- What an entry is, and what an answer says of all of them.
use Rattle.std.specs.Prelude.{◌≡◌, ℕ, List, Option, Some, None, Result, Ok, Err, Vec}
use Rattle.std.specs.Global.{Global}
use Rattle.stage_plan.specs.declared.types.TypeEntry.{TypeEntry}
use Rattle.stage_plan.specs.declared.fault.TypesFault.{TypesFault}
use Rattle.stage_plan.specs.declared.fault.TypesFault.TheVariants.{At, NoMemory}
use Rattle.stage_plan.specs.promise.Types.{BadEntryIs, EntryIs}

-- ---- entries

abbrev pub EntryReads : List ℕ → Option TypeEntry → Type 0
EntryReads part (Some entry) = EntryIs part entry
EntryReads part None = BadEntryIs part

-- ---- one answer

-- The answer is this one, or out of memory.
abbrev pub Gives : Result (Vec TypeEntry Global) TypesFault → Result (List TypeEntry) TypesFault → Type 0
Gives (Ok entries) read = read ≡ Ok entries.items
Gives (Err NoMemory) read = Unit {0}
Gives (Err (At number rule)) read = read ≡ Err (At number rule)
