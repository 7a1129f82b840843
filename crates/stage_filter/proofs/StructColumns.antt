-- A struct column as the rows of its columns.
use Rattle.std.proofs.Common.{◌≡◌, ◌<◌, ◌+◌, ℕ, zero, suc, List, [], ◌∷◌, length, map, get_or, drop, All, refl, ap, subst, arith, rules}
use Rattle.std.specs.List.{sum_by}
use Rattle.std.proofs.lemmas.List.Sums.{sum_by-cons}
use Rattle.std.specs.declared.vec.Vec.{Vec}
use Rattle.std.specs.declared.alloc.Global.{Global}
use Rattle.data_types.specs.ColumnForms.{AreColumnKinds, MembersAreColumns}
use Rattle.data_types.specs.promise.ColumnView.{members}
use Rattle.data_types.specs.ColumnView.{column_of, kind_of}
use Rattle.data_types.specs.promise.Parts.{column_values, fields_of, member_columns}
use Rattle.data_types.specs.promise.Table.{Column, Row, Columns as StructOf, Members, no_members, more_members}
use Rattle.data_types.specs.promise.Value.{Value, Null}
use Rattle.data_types.specs.declared.kind.DataType.{DataType}
use Rattle.data_types.specs.declared.kind.DataType.TheVariants as kinds
use Rattle.data_types.specs.declared.kind.ColKind.{Columns}
use Rattle.data_types.specs.declared.kind.ColKind.TheViews.{the_lemmas}
use Rattle.data_types.specs.declared.kind.ColumnType.{ColumnType}
use Rattle.data_types.proofs.StructColumns.{row_is}
use Rattle.tree_model.specs.promise.TreeData.{Live, Trees, absent, more_trees, trees}
use Rattle.data_types.specs.promise.ColumnKinds.{type_of_columns, type_of_kind, types_of_members}
use Rattle.data_types.specs.ColumnKinds.{types_of_columns}
use Rattle.stage_model.specs.promise.Traffic.{Dictionaries, blocks_from, kind_blocks, kind_nodes, member_blocks, member_nodes}
use Rattle.stage_model.specs.Traffic.{member_values}
use Rattle.stream_face.specs.Lawful.{AreFieldItems, AreItems}
use Rattle.stage_filter.specs.Plain.{most_of_columns, most_of_members}

-- the columns that the code keeps
pub struct-view : (v : Vec ColumnType Global) → kind_of (Columns v) ≡ StructOf (members (map column_of v.items))
struct-view v = search (rules, the_lemmas, row_is)

pub columns-back : (cs : List Column) → member_columns (members cs) ≡ cs
columns-back [] = refl
columns-back (c ∷ cs) = ap (λ (more : List Column). c ∷ more) (columns-back cs)

-- ---- types

types-are : (ms : Members) → types_of_members ms ≡ trees (types_of_columns (member_columns ms))
types-are no_members = refl
types-are (more_members name kind rest) = ap (λ (ts : Trees DataType). more_trees (type_of_kind kind) ts) (types-are rest)

pub type-is : (ms : Members) → type_of_kind (StructOf ms) ≡ type_of_columns (member_columns ms)
type-is ms = ap (λ (ts : Trees DataType). Live kinds.Struct ts absent) (types-are ms)

pub kinds-are : (ms : Members) → MembersAreColumns ms → All (λ c. AreColumnKinds c.kind) (member_columns ms)
kinds-are no_members are k d small = absurd (omega (arith, small))
kinds-are (more_members name kind rest) are zero d small = are.0
kinds-are (more_members name kind rest) are (suc k) d small = kinds-are rest are.1 k d (omega (arith, small))

pub most-is : (ms : Members) → most_of_members ms ≡ most_of_columns (member_columns ms)
most-is no_members = refl
most-is (more_members name kind rest) = omega (arith, most-is rest)

pub nodes-are : (how : Dictionaries) (ms : Members) → member_nodes how ms ≡ sum_by (λ c. kind_nodes how c.kind) (member_columns ms)
nodes-are how no_members = refl
nodes-are how (more_members name kind rest) =
    omega (arith, nodes-are how rest, sum_by-cons (λ (c : Column). kind_nodes how c.kind) (record { name = name; kind = kind }) (member_columns rest))

-- ---- items

pub values-are : (place : ℕ) (values : List Value) → member_values place values ≡ column_values place (map fields_of values)
values-are place [] = refl
values-are place (v ∷ values) = ap (λ (vs : List Value). get_or (fields_of v) place Null ∷ vs) (values-are place values)

-- the values of a later column are those of the rows without their first items
later : (k : ℕ) (rows : List Row) → column_values k (map (drop 1) rows) ≡ column_values (suc k) rows
later k [] = refl
later k ([] ∷ rows) = ap (λ (vs : List Value). get_or {A = Value} [] k Null ∷ vs) (later k rows)
later k ((v ∷ row) ∷ rows) = ap (λ (vs : List Value). get_or row k Null ∷ vs) (later k rows)

pub items-are : (ms : Members) (rows : List Row) → AreFieldItems ms rows → (k : ℕ) (none : Column) → k < length (member_columns ms)
    → AreItems (get_or (member_columns ms) k none).kind (column_values k rows)
items-are no_members rows are k none small = absurd (omega (arith, small))
items-are (more_members name kind rest) rows are zero none small = are.0
items-are (more_members name kind rest) rows are (suc k) none small =
    subst (AreItems (get_or (member_columns rest) k none).kind) (later k rows) (items-are rest (map (drop 1) rows) are.1 k none (omega (arith, small)))

-- ---- blocks

pub blocks-is : (how : Dictionaries) (ms : Members) (place : ℕ) (values : List Value)
    → member_blocks how ms place values ≡ blocks_from how place (member_columns ms) (map fields_of values)
blocks-is how no_members place values = refl
blocks-is how (more_members name kind rest) place values =
    let first = ap (kind_blocks how kind) (values-are place values) in
    omega (arith, first, blocks-is how rest (place + 1) values)
