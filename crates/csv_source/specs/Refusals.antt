-- Why the source refused, as a stream tells it.
use Rattle.std.specs.Prelude.{◌≡◌, Option, None, Some}
use Rattle.csv_read.specs.declared.body.BodyFault.{BodyFault}
use Rattle.csv_read.specs.declared.body.BodyFault.TheVariants as faults
use Rattle.data_types.specs.declared.row_fault.RowFault.{RowFault}
use Rattle.stream_face.specs.Texts.{Refusal, refused_row, wanting}
use Rattle.csv_source.specs.declared.refused.Refused.{Refused}
use Rattle.csv_source.specs.declared.refused.Refused.TheVariants as refused
use Rattle.csv_source.specs.declared.refused.LastAnswer.{LastAnswer}
use Rattle.csv_source.specs.declared.refused.LastAnswer.TheVariants as words

abbrev pub refusal_of : Refused → Refusal
refusal_of (refused.Row row) = refused_row row.fault
refusal_of refused.NoMemory = wanting

abbrev pub refusal_in : Option Refused → Option Refusal
refusal_in None = None
refusal_in (Some why) = Some (refusal_of why)

-- the record at fault
abbrev pub row_of : Refused → Option RowFault
row_of (refused.Row row) = Some row.fault
row_of refused.NoMemory = None

abbrev pub row_in : Option Refused → Option RowFault
row_in None = None
row_in (Some why) = row_of why

-- what the last get call said: nothing, that the making of a schema ran out of memory, or the refusal that stays
abbrev pub said_by : LastAnswer → Option Refused → Option Refusal
said_by words.Nothing why = None
said_by words.Memory why = Some wanting
said_by words.Refusal why = refusal_in why

-- a record is named only where it is the fault
abbrev pub TellsOf : BodyFault → Refused → Type 0
TellsOf fault why = (row : RowFault) → row_of why ≡ Some row → fault ≡ faults.Row row
