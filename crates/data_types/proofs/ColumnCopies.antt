-- How large what a column holds is, and the columns of a struct.
use Rattle.std.proofs.Common.{◌≡◌, ◌∙◌, ◌≤◌, ◌<◌, ◌+◌, ℕ, zero, suc, List, [], ◌∷◌, length, get_or, map, refl, ap, sym, subst, arith, rules, Vec, Global}
use Rattle.std.specs.Prelude.{All}
use Rattle.data_types.specs.ColumnForms.{KindsOk, MembersOk}
use Rattle.data_types.specs.promise.ColumnView.{members}
use Rattle.data_types.specs.ColumnView.{column_of, kind_of}
use Rattle.data_types.specs.promise.Table.{Column, Kind, Flat, Dict, Columns, Members, no_members, more_members}
use Rattle.data_types.specs.declared.kind.ColKind.{Columns as CodeColumns}
use Rattle.data_types.specs.declared.kind.ColKind.TheViews.{the_lemmas}
use Rattle.data_types.specs.declared.kind.ColumnType.{ColumnType}
use Rattle.data_types.proofs.StructColumns.{row_is}

abbrev mutual
  pub kind_size : Kind → ℕ
  kind_size (Flat type) = 0
  kind_size (Dict type) = 0
  kind_size (Columns members) = 1 + members_size members

  pub members_size : Members → ℕ
  members_size no_members = 0
  members_size (more_members name kind rest) = 1 + kind_size kind + members_size rest

abbrev pub columns_size : List ColumnType → ℕ
columns_size columns = members_size (members (map column_of columns))

-- each column is smaller than all of them
pub column-size : (columns : List ColumnType) (i : ℕ) (d : ColumnType) → i < length columns
    → kind_size (kind_of (get_or columns i d).kind) < columns_size columns
column-size [] i d within = absurd (omega (arith, within))
column-size (c ∷ cs) zero d within = omega arith
column-size (c ∷ cs) (suc i) d within = omega (arith, column-size cs i d (omega (arith, within)))

-- a struct holds its columns
pub struct-view : (v : Vec ColumnType Global) → kind_of (CodeColumns v) ≡ Columns (members (map column_of v.items))
struct-view v = search (rules, the_lemmas, row_is)

-- the columns of a struct are in order where the struct is
pub members-ok : (columns : List ColumnType) → MembersOk (members (map column_of columns)) → All (λ c. KindsOk (kind_of c.kind)) columns
members-ok [] ok k d within = absurd (omega arith)
members-ok (c ∷ cs) ok zero d within = ok.0
members-ok (c ∷ cs) ok (suc k) d within = members-ok cs ok.1 k d (omega arith)
