-- What the table of people costs.
use Rattle.std.proofs.Common.{rules, ◌≡◌, ◌≤◌, List, [], ◌∷◌, map, All, refl, sym, ap, subst, arith}
use Rattle.std.proofs.lemmas.List.Elements.{All-from_recursion}
use Rattle.data_types.specs.ColumnView.{column_of, kind_of}
use Rattle.data_types.specs.promise.Table.{Column, Kind, Flat}
use Rattle.data_types.specs.declared.kind.ColumnType.{ColumnType}
use Rattle.tree_model.specs.promise.TreeCost.{Nodes}
use Rattle.raw_array.specs.promise.Members.{Cost, whole}
use Rattle.raw_array.specs.Members.{LeastAmount}
use Rattle.schema_check.specs.promise.ColumnSchema.{SchemaOf}
use Rattle.schema_check.specs.ColumnSchema.{KindsOk}
use Rattle.arr_export.specs.ArrayTrees.{IsColumn}
use Rattle.arr_export.specs.ValueColumns.{plain_tree}
use Rattle.first_exchange.specs.People.{columns, id_type, ids, name_type, names, people}

pub ids-cost : Cost (plain_tree ids) ≡ 3
unfolding ids
ids-cost = refl

pub names-cost : Cost (plain_tree names) ≡ 3
unfolding names
names-cost = refl

pub people-cost : Cost people ≡ 7
unfolding ids names
people-cost = refl

-- nothing of it is shared yet
pub people-whole : LeastAmount people ≡ whole
unfolding ids names
people-whole = refl

pub schema-cost : Nodes (SchemaOf columns) ≡ 3
schema-cost = refl

pub ids-column : IsColumn 3 (plain_tree ids)
unfolding ids
ids-column = record { live = tt; not_deep = omega arith; long = omega arith }

pub names-column : IsColumn 3 (plain_tree names)
unfolding names
names-column = record { live = tt; not_deep = omega arith; long = omega arith }

-- ---- the types of its columns

id-ok : KindsOk (Flat id_type)
id-ok = search rules

name-ok : KindsOk (Flat name_type)
name-ok = search rules

abbrev first-kind : List Column → Kind
first-kind [] = Flat id_type
first-kind (c ∷ cs) = c.kind

abbrev second-kind : List Column → Kind
second-kind [] = Flat id_type
second-kind (c ∷ cs) = first-kind cs

pub kinds-ok : (made : List ColumnType) → map column_of made ≡ columns → All (λ c. KindsOk (kind_of c.kind)) made
kinds-ok [] e = absurd (cc)
kinds-ok (a ∷ []) e = absurd (cc)
kinds-ok (a ∷ b ∷ c ∷ cs) e = absurd (cc)
kinds-ok (a ∷ b ∷ []) e =
    let first : kind_of a.kind ≡ Flat id_type = ap first-kind e in
    let second : kind_of b.kind ≡ Flat name_type = ap second-kind e in
    All-from_recursion (λ c. KindsOk (kind_of c.kind)) (a ∷ b ∷ []) (subst KindsOk (sym first) id-ok, (subst KindsOk (sym second) name-ok, tt))

pub ruleset costs = (ids-cost, names-cost, people-cost, people-whole, schema-cost, ids-column, names-column)
