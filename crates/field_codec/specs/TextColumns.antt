-- What the columns of a text are: read, they are plain values, under names that differ.
use Rattle.std.specs.Prelude.{◌≡◌, ◌≢◌, List, All, true}
use Rattle.std.specs.List.{AllPairs}
use Rattle.data_types.specs.declared.kind.DataType.{DataType}
use Rattle.data_types.specs.promise.Kinds.{is_column_type}
use Rattle.data_types.specs.Kinds.{KindOk}
use Rattle.data_types.specs.promise.Table.{Column, Kind, Flat, Dict, Columns}
use Rattle.data_types.specs.ColumnForms.{IsColumnKind}

-- a column of plain values, whose type has the property
abbrev pub IsFlatOf : (DataType → Type 0) → Column → Type 0
IsFlatOf P c = (kind : DataType) × (c.kind ≡ Flat kind) × P kind

-- a type that may be asked for
abbrev pub IsAllowed : DataType → Type 0
IsAllowed kind = is_column_type kind ≡ true

abbrev pub NamesDiffer : List Column → Type 0
NamesDiffer columns = AllPairs (λ a b. a.name ≢ b.name) columns

-- the numbers of the columns' types are in their ranges
abbrev pub AreProper : List Column → Type 0
AreProper columns = All (IsFlatOf KindOk) columns

abbrev pub AreAllowed : List Column → Type 0
AreAllowed columns = All (IsFlatOf IsAllowed) columns

-- ---- the columns that a text is written of

-- plain values of a flat column kind, or the same by a dictionary
abbrev pub HasTexts : Kind → Type 0
HasTexts (Flat kind) = IsColumnKind kind
HasTexts (Dict kind) = IsColumnKind kind
HasTexts (Columns _) = ⊥

abbrev pub HaveTexts : List Column → Type 0
HaveTexts columns = All (λ column. HasTexts column.kind) columns
