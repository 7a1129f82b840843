-- What the code's own types stand for.
use Rattle.stage_plan.specs.declared.types.TypeEntry.{TypeEntry}
use Rattle.stage_plan.specs.declared.types.Entry.{Entry}

abbrev pub entry_of : Entry → TypeEntry
entry_of e = record { name = e.name.now; kind = e.kind }
