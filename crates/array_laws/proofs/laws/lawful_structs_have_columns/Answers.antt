use Rattle.array_laws.proofs.StructParts.{children-are, column-lawful, column-live, column-long, end-few, length-from, live-struct, offset-from}
use Rattle.array_laws.proofs.laws.lawful_structs_have_columns.Goals as goal

pub returns-clause-live : goal.returns-clause-live
returns-clause-live c = live-struct

pub returns-clause-offset : goal.returns-clause-offset
returns-clause-offset c = offset-from

pub returns-clause-length : goal.returns-clause-length
returns-clause-length c = length-from

pub returns-clause-end : goal.returns-clause-end
returns-clause-end c = end-few

pub returns-clause-children : goal.returns-clause-children
returns-clause-children c = children-are

pub returns-clause-column : goal.returns-clause-column
returns-clause-column c = column-lawful

pub returns-clause-column_live : goal.returns-clause-column_live
returns-clause-column_live c = column-live

pub returns-clause-column_long : goal.returns-clause-column_long
returns-clause-column_long c = column-long
