-- The types of columns that are in order.
use Rattle.std.proofs.Common.{zero, suc, List, [], ◌∷◌, All, map, arith}
use Rattle.data_types.specs.ColumnForms.{AreColumnKinds, KindsOk, MembersAreColumns, MembersOk}
use Rattle.data_types.specs.ColumnView.{column_of}
use Rattle.data_types.specs.promise.Table.{Kind, Flat, Dict, Columns, Members, no_members, more_members}
use Rattle.data_types.specs.declared.kind.ColumnType.{ColumnType}

mutual
  kind-ok : (kind : Kind) → AreColumnKinds kind → KindsOk kind
  kind-ok (Flat kind) is = is.0
  kind-ok (Dict kind) is = is.0
  kind-ok (Columns members) is = members-ok members is

  members-ok : (members : Members) → MembersAreColumns members → MembersOk members
  members-ok no_members are = tt
  members-ok (more_members name kind rest) are = (kind-ok kind are.0, members-ok rest are.1)

-- the numbers of the columns' types are in their ranges
pub kinds-ok : (columns : List ColumnType) → All (λ c. AreColumnKinds c.kind) (map column_of columns) → All (λ c. KindsOk (column_of c).kind) columns
kinds-ok [] all k none small = absurd (omega (arith, small))
kinds-ok (c ∷ cs) all zero none small = kind-ok (column_of c).kind (all zero (column_of none) (omega arith))
kinds-ok (c ∷ cs) all (suc k) none small = kinds-ok cs (λ j d below. all (suc j) d (omega (arith, below))) k none (omega (arith, small))
