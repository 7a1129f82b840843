use Rattle.array_laws.proofs.ColumnTypes.{checked-live, struct-type, type-fields, types-live, types-picked}
use Rattle.array_laws.proofs.column_laws.column_types_follow_picks.Goals as goal

pub returns-clause-live : goal.returns-clause-live
returns-clause-live c = types-live

pub returns-clause-checked : goal.returns-clause-checked
returns-clause-checked c = checked-live

pub returns-clause-picked : goal.returns-clause-picked
returns-clause-picked c = types-picked

pub returns-clause-packed : goal.returns-clause-packed
returns-clause-packed c = struct-type

pub returns-clause-unpacked : goal.returns-clause-unpacked
returns-clause-unpacked c = type-fields
