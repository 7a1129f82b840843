-- Lists over fields, beside a place that is released.
use Rattle.std.proofs.Common.{◌≡◌, ◌∙◌, ◌≤◌, ◌<◌, ◌+◌, ℕ, zero, suc, List, [], ◌∷◌, ◌++◌, Bool, true, false, length, get_or, refl, ap, sym, arith}
use Rattle.std.specs.Prelude.{if◌then◌else◌, ◌==◌}
use Rattle.tree_model.specs.promise.TreeData.{Released, trees}
use Rattle.tree_model.specs.promise.TreeParts.{child_at, children_of}
use Rattle.tree_model.specs.Tree.{Depth, depth_of_all}
use Rattle.tree_model.specs.promise.TreeCost.{Nodes}
use Rattle.raw_schema.specs.promise.Members.{SchemaTree}
use Rattle.raw_schema.specs.Members.{nodes_of_all}
use Rattle.arr_move.specs.Fields.{fields_over, new_or_old}
use Rattle.layout_rules.specs.promise.Values.{each}
use Rattle.list_cols.specs.NestedFields.{list_field, nested_field, new_field}

low-if : (b : Bool) (field : SchemaTree) → Depth (if b then Released else list_field field) ≤ 2
low-if true field = omega arith
low-if false field = omega arith

pub fields-shallow : (column : ℕ) (schema : SchemaTree) (a n : ℕ) → depth_of_all (trees (each (new_field column schema) a n)) ≤ 2
fields-shallow column schema a zero = omega arith
fields-shallow column schema a (suc n) = omega (arith, low-if (a == column) (child_at schema a), fields-shallow column schema (suc a) n)

-- of the fields before one and that one
pub nodes-append : (fields : List SchemaTree) (field : SchemaTree) → nodes_of_all (trees (fields ++ field ∷ [])) ≡ nodes_of_all (trees fields) + Nodes field
nodes-append [] field = omega arith
nodes-append (f ∷ fields) field = omega (arith, nodes-append fields field)

pub depth-append : (fields : List SchemaTree) (field : SchemaTree) → Depth field ≤ 127 → depth_of_all (trees fields) ≤ 127 → depth_of_all (trees (fields ++ field ∷ [])) ≤ 127
depth-append [] field low few = omega (arith, low)
depth-append (f ∷ fields) field low few = omega (arith, depth-append fields field low (omega (arith, few)), few)

-- ---- new fields over old ones

over-if : (b : Bool) (field : SchemaTree) → new_or_old (if b then Released else list_field field) field ≡ (if b then field else list_field field)
over-if true field = refl
over-if false field = refl

over-from : (column : ℕ) (schema : SchemaTree) (olds : List SchemaTree) (a : ℕ) → ((i : ℕ) → i < length olds → child_at schema (a + i) ≡ get_or olds i Released)
    → fields_over (each (new_field column schema) a (length olds)) olds ≡ each (nested_field column schema) a (length olds)
over-from column schema [] a same = refl
over-from column schema (old ∷ olds) a same =
    let start : a ≡ a + 0 = omega arith in
    let here : old ≡ child_at schema a = sym (ap (child_at schema) start ∙ same 0 (omega arith)) in
    let more = over-from column schema olds (suc a) (λ i lt.
    let place : suc a + i ≡ a + suc i = omega arith in
    ap (child_at schema) place ∙ same (suc i) (omega (arith, lt))) in
    (λ t. (ap (new_or_old (new_field column schema a)) here ∙ over-if (a == column) (child_at schema a)) t ∷ more t)

pub over-all : (column : ℕ) (schema : SchemaTree)
    → fields_over (each (new_field column schema) 0 (length (children_of schema))) (children_of schema)
    ≡ each (nested_field column schema) 0 (length (children_of schema))
over-all column schema =
    over-from column schema (children_of schema) 0 (λ i lt.
    let place : 0 + i ≡ i = omega arith in
    ap (child_at schema) place)
