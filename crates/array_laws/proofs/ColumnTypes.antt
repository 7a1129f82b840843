-- The types of columns that are picked, packed and unpacked.
use Rattle.std.proofs.Common.{◌≡◌, ℕ, zero, suc, ◌<◌, List, [], ◌∷◌, length, get_or, refl, ap, arith}
use Rattle.data_types.specs.promise.Table.{Column, Kind, Flat, Dict, Columns, Members, no_members, more_members}
use Rattle.data_types.specs.promise.ColumnView.{members}
use Rattle.data_types.specs.declared.kind.DataType.{DataType}
use Rattle.data_types.specs.declared.kind.DataType.TheVariants as kinds
use Rattle.tree_model.specs.promise.TreeParts.{IsLive}
use Rattle.tree_model.specs.promise.TreeData.{Live, Released, absent, Trees, trees, more_trees}
use Rattle.data_types.specs.promise.KindTrees.{KindTree}
use Rattle.data_types.specs.KindTrees.{AllNodesOk, NodesOk}
use Rattle.data_types.specs.promise.ColumnKinds.{type_of_kind, types_of_members}
use Rattle.data_types.specs.ColumnKinds.{table_type, type_of_column, types_of_columns}
use Rattle.array_laws.proofs.PickedColumns.{head-within, tail-within}
use Rattle.data_types.specs.promise.Parts.{member_columns, picked}
use Rattle.data_types.specs.Parts.{AreWithin}
use Rattle.array_laws.specs.Picking.{AreLive}

kind-live : (kind : Kind) → IsLive (type_of_kind kind)
kind-live (Flat kind) = tt
kind-live (Dict kind) = tt
kind-live (Columns fields) = tt

pub types-live : (columns : List Column) → AreLive (types_of_columns columns)
types-live [] p lt = absurd (omega (arith, lt))
types-live (c ∷ cs) zero lt = kind-live c.kind
types-live (c ∷ cs) (suc p) lt = types-live cs p (omega (arith, lt))

one-live : (type : KindTree) → NodesOk type → IsLive type
one-live Released ok = absurd ok
one-live (Live kind kids dict) ok = tt

nodes-live : (types : List KindTree) → AllNodesOk (trees types) → AreLive types
nodes-live [] ok p lt = absurd (omega (arith, lt))
nodes-live (type ∷ types) ok zero lt = one-live type ok.0
nodes-live (type ∷ types) ok (suc p) lt = nodes-live types ok.1 p (omega (arith, lt))

pub checked-live : (types : List KindTree) → NodesOk (table_type types) → AreLive types
checked-live types ok = nodes-live types ok.3

pub type-at : (columns : List Column) (none : Column) (p : ℕ) → p < length columns
    → type_of_column (get_or columns p none) ≡ get_or (types_of_columns columns) p Released
type-at [] none p lt = absurd (omega (arith, lt))
type-at (c ∷ cs) none zero lt = refl
type-at (c ∷ cs) none (suc p) lt = type-at cs none p (omega (arith, lt))

pub types-picked : (columns : List Column) (none : Column) (picks : List ℕ) → AreWithin (length columns) picks
    → types_of_columns (picked none picks columns) ≡ picked Released picks (types_of_columns columns)
types-picked columns none [] within = refl
types-picked columns none (p ∷ picks) within =
    λ t. type-at columns none p (head-within (length columns) p picks within) t ∷ types-picked columns none picks
    (tail-within (length columns) p picks within) t

members-types : (columns : List Column) → types_of_members (members columns) ≡ trees (types_of_columns columns)
members-types [] = refl
members-types (c ∷ cs) = ap (λ (ts : Trees DataType). more_trees (type_of_kind c.kind) ts) (members-types cs)

abbrev struct_of : Trees DataType → KindTree
struct_of ts = Live kinds.Struct ts absent

pub struct-type : (columns : List Column) → type_of_kind (Columns (members columns)) ≡ table_type (types_of_columns columns)
struct-type columns = ap struct_of (members-types columns)

types-members : (ms : Members) → types_of_members ms ≡ trees (types_of_columns (member_columns ms))
types-members no_members = refl
types-members (more_members name kind rest) = ap (λ (ts : Trees DataType). more_trees (type_of_kind kind) ts) (types-members rest)

pub type-fields : (ms : Members) → type_of_kind (Columns ms) ≡ table_type (types_of_columns (member_columns ms))
type-fields ms = ap struct_of (types-members ms)
