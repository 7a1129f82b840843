-- One entry of a schema text, as a header takes it.
use Rattle.csv_model.specs.promise.Header.{Entry}
use Rattle.stage_plan.specs.declared.types.TypeEntry.{TypeEntry}

-- the entries of a schema text, as a header takes them
abbrev pub entry_of : TypeEntry → Entry
entry_of e = record { name = e.name; kind = e.kind }
