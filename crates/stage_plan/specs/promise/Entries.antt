-- What the entries of the text of a schema stand for.
use Rattle.std.specs.Prelude.{List, map}
use Rattle.csv_model.specs.promise.Header.{Entry}
use Rattle.stage_plan.specs.declared.types.TypeEntry.{TypeEntry}

abbrev pub entries_of : List TypeEntry → List Entry
entries_of entries = map (λ e. record { name = e.name; kind = e.kind }) entries
