-- The header of a text: the columns that its fields name, of the types that entries ask for, or its first fault.
use Rattle.std.specs.Prelude.{ℕ, ◌+◌, Bool, false, not, nat_le, List, [], ◌∷◌, length, map, position, Option, None, Some, Result, Ok, Err, if◌then◌else◌}
use Rattle.std.specs.List.{find, list_any}
use Rattle.std.specs.Str.{bytes_eq, is_utf8}
use Rattle.data_types.specs.declared.kind.DataType.{DataType}
use Rattle.data_types.specs.declared.kind.DataType.TheVariants as kinds
use Rattle.data_types.specs.promise.Table.{Column, Flat}
use Rattle.csv_model.specs.promise.Reading.{Record}
use Rattle.csv_model.specs.declared.fault.HeaderFault.{HeaderFault}
use Rattle.csv_model.specs.declared.fault.HeaderFault.TheVariants as faults

-- a type that is asked for, and the name of its column
pub record Entry : Type 0 where
  pub name : List ℕ
  pub kind : DataType

-- the most columns that a text may have
abbrev pub most_columns : ℕ
most_columns = 1024

-- whether the name is one of these
abbrev pub is_among : List (List ℕ) → List ℕ → Bool
is_among names name = list_any (λ n. bytes_eq name n) names

-- ---- places, from 0

-- the first field that is one of those before it
abbrev pub twice_behind : List (List ℕ) → Record → Option ℕ
twice_behind before [] = None
twice_behind before (field ∷ fields) = if is_among before field then Some (length before) else twice_behind (field ∷ before) fields

abbrev pub first_twice : Record → Option ℕ
first_twice fields = twice_behind [] fields

-- ---- the fault, whose columns and entries are numbered from 1

-- the fault at a place, where there is one, and else the next one
abbrev pub fault_at : Option ℕ → (ℕ → HeaderFault) → Option HeaderFault → Option HeaderFault
fault_at None fault next = next
fault_at (Some place) fault next = Some (fault (place + 1))

-- the first fault of a header's fields: too many, one that isn't UTF-8, one that is there twice, an entry whose name is no
-- field
abbrev pub header_fault : List Entry → Record → Option HeaderFault
header_fault entries fields =
    if nat_le (length fields) most_columns then
    fault_at (position (λ field. not (is_utf8 field)) fields) (λ n. faults.NotText n)
    (fault_at (first_twice fields) (λ n. faults.Twice n)
    (fault_at (position (λ e. not (is_among fields e.name)) entries) (λ n. faults.Unknown n) None))
    else Some (faults.TooManyColumns (length fields))

-- ---- the columns

abbrev pub kind_or_text : Option Entry → DataType
kind_or_text None = kinds.Utf8 false
kind_or_text (Some e) = e.kind

-- the type of the first entry of the name, and text where there is none
abbrev pub type_for : List Entry → List ℕ → DataType
type_for entries name = kind_or_text (find (λ e. bytes_eq e.name name) entries)

abbrev pub columns_unless : Option HeaderFault → List Column → Result (List Column) HeaderFault
columns_unless None columns = Ok columns
columns_unless (Some fault) columns = Err fault

-- the columns of a text's records, or the fault of its header, which is the first record
abbrev pub header_of : List Entry → List Record → Result (List Column) HeaderFault
header_of entries [] = Err faults.NoHeader
header_of entries (fields ∷ records) = columns_unless (header_fault entries fields) (map (λ name. record { name = name; kind = Flat (type_for entries name) }) fields)
