-- Which types the columns of a table have.
use Rattle.std.specs.Prelude.{Option, None, Some}
use Rattle.data_types.specs.promise.FieldText.{Form, form_of}
use Rattle.data_types.specs.Kinds.{KindOk}
use Rattle.data_types.specs.promise.Table.{Kind, Flat, Dict, Columns, Members, no_members, more_members}
use Rattle.data_types.specs.declared.kind.DataType.{DataType}

abbrev pub HasForm : Option Form → Type 0
HasForm None = ⊥
HasForm (Some form) = Unit {0}

-- a flat column kind, whose numbers are in their ranges
abbrev pub IsColumnKind : DataType → Type 0
IsColumnKind kind = KindOk kind × HasForm (form_of kind)

abbrev mutual
  -- the numbers of a column's types are in their ranges, at all depths
  pub KindsOk : Kind → Type 0
  KindsOk (Flat kind) = KindOk kind
  KindsOk (Dict kind) = KindOk kind
  KindsOk (Columns members) = MembersOk members

  pub MembersOk : Members → Type 0
  MembersOk no_members = Unit {0}
  MembersOk (more_members name kind rest) = KindsOk kind × MembersOk rest

-- the types of a column, at all depths
abbrev mutual
  pub AreColumnKinds : Kind → Type 0
  AreColumnKinds (Flat kind) = IsColumnKind kind
  AreColumnKinds (Dict kind) = IsColumnKind kind
  AreColumnKinds (Columns members) = MembersAreColumns members

  pub MembersAreColumns : Members → Type 0
  MembersAreColumns no_members = Unit {0}
  MembersAreColumns (more_members name kind rest) = AreColumnKinds kind × MembersAreColumns rest
