-- The kinds of the schema of which a list's field is replaced by its items.
use Rattle.std.proofs.Common.{◌≡◌, ◌≢◌, ◌<◌, ℕ, zero, suc, List, [], ◌∷◌, Bool, length, get_or, map, set, Option, None, sym, subst, arith}
use Rattle.std.proofs.lemmas.Option.{none-some}
use Rattle.data_types.specs.declared.kind.DataType.{DataType}
use Rattle.data_types.specs.declared.kind.DataType.TheVariants as kinds
use Rattle.tree_model.specs.promise.TreeData.{Released, Live, Trees, no_trees, more_trees, absent, present, trees, tree_list}
use Rattle.tree_model.specs.promise.TreeParts.{IsLive, child_at, children_of, dictionary_of}
use Rattle.tree_model.proofs.Lists.{trees-tree_list}
use Rattle.raw_schema.specs.promise.Members.{SchemaMembers, SchemaTree}
use Rattle.data_types.specs.promise.KindTrees.{KindTree, kind_in}
use Rattle.schema_check.specs.promise.Schemas.{KidsTyped, NodeIs, TypedFrom, TypedOf}
use Rattle.arr_export.specs.ArrayTrees.{flat_type}
use Rattle.list_cols.specs.Exploded.{exploded_type, item_kind}
use Rattle.list_cols.specs.Fields.{exploded_schema, item_field, renamed_field}

-- its kinds have no children and no dictionary
abbrev pub IsFlatType : KindTree → Type 0
IsFlatType typed = typed ≡ flat_type (kind_in typed) None

abbrev flat_of : DataType → KindTree
flat_of kind = flat_type kind None

-- ---- the items' field

renamed-typed : (name : Option (List ℕ)) (field : SchemaTree) (kind : DataType) → TypedFrom 3 field (flat_of kind)
    → TypedFrom 2 (renamed_field name field) (flat_of kind)
renamed-typed name Released kind t = absurd t
renamed-typed name (Live s (more_trees kid kids) dict) kind t = absurd t.1
renamed-typed name (Live s no_trees (present dict)) kind t = absurd t.2
renamed-typed name (Live s no_trees absent) kind t = (
  record {
    on_level = omega arith;
    format = t.0.format;
    meta = t.0.meta;
    children = t.0.children;
    index = tt;
    map = t.0.map;
  },
  tt,
  tt,
)

pub item-typed : (list : SchemaTree) (wide : Bool) (kid : KindTree) → TypedFrom 2 list (Live (kinds.List wide) (more_trees kid no_trees) absent) → IsFlatType kid
    → TypedFrom 2 (item_field list) (flat_of (kind_in kid))
item-typed Released wide kid t flat = absurd t
item-typed (Live s no_trees dict) wide kid t flat = absurd t.1
item-typed (Live s (more_trees field (more_trees other others)) dict) wide kid t flat = absurd t.1.1
item-typed (Live s (more_trees field no_trees) dict) wide kid t flat =
    renamed-typed s.name field (kind_in kid) (subst (TypedFrom 3 field) flat t.1.0)

pub list-live : (list : SchemaTree) (wide : Bool) (kid : KindTree) → TypedFrom 2 list (Live (kinds.List wide) (more_trees kid no_trees) absent)
    → IsLive list
list-live Released wide kid t = absurd t
list-live (Live s fields dict) wide kid t = tt

field-live : (level : ℕ) (field : SchemaTree) (kid : KindTree) → TypedFrom level field kid → IsLive field
field-live level Released kid t = absurd t
field-live level (Live s fields dict) kid t = tt

pub item-live : (list : SchemaTree) (wide : Bool) (kid : KindTree) → TypedFrom 2 list (Live (kinds.List wide) (more_trees kid no_trees) absent)
    → IsLive (child_at list 0)
item-live Released wide kid t = absurd t
item-live (Live s no_trees dict) wide kid t = absurd t.1
item-live (Live s (more_trees field others) dict) wide kid t = field-live 3 field kid t.1.0

-- ---- all fields

kids-flat : (ss : List SchemaTree) (ts : List KindTree) → KidsTyped 2 (trees ss) (trees ts) → ((j : ℕ) → j < length ts → IsFlatType (get_or ts j Released))
    → KidsTyped 2 (trees ss) (trees (map flat_of (map kind_in ts)))
kids-flat [] [] k flat = tt
kids-flat [] (t ∷ ts) k flat = absurd k
kids-flat (s ∷ ss) [] k flat = absurd k
kids-flat (s ∷ ss) (t ∷ ts) k flat =
    (subst (TypedFrom 2 s) (flat 0 (omega arith)) k.0, kids-flat ss ts k.1 (λ j lt. flat (suc j) (omega (arith, lt))))

kids-set : (ss : List SchemaTree) (ts : List KindTree) (column : ℕ) (f : SchemaTree) (kind : DataType) → KidsTyped 2 (trees ss) (trees ts)
    → TypedFrom 2 f (flat_of kind) → ((j : ℕ) → j < length ts → j ≢ column → IsFlatType (get_or ts j Released))
    → KidsTyped 2 (trees (set ss column f)) (trees (map flat_of (set (map kind_in ts) column kind)))
kids-set [] [] column f kind k typed flat = tt
kids-set [] (t ∷ ts) column f kind k typed flat = absurd k
kids-set (s ∷ ss) [] column f kind k typed flat = absurd k
kids-set (s ∷ ss) (t ∷ ts) zero f kind k typed flat =
    (typed, kids-flat ss ts k.1 (λ j lt. flat (suc j) (omega (arith, lt)) (λ e. omega (arith, e))))
kids-set (s ∷ ss) (t ∷ ts) (suc column) f kind k typed flat = (
  subst (TypedFrom 2 s) (flat 0 (omega arith) (λ e. omega (arith, e))) k.0,
  kids-set ss ts column f kind k.1 typed (λ j lt other. flat (suc j) (omega (arith, lt)) (λ e. other (omega (arith, e)))),
)

pub spread-typed : (column : ℕ) (schema : SchemaTree) (typed : KindTree) → TypedOf schema typed → kind_in typed ≡ kinds.Struct → dictionary_of typed ≡ None
    → TypedFrom 2 (item_field (child_at schema column)) (flat_of (item_kind (child_at typed column)))
    → ((j : ℕ) → j < length (children_of typed) → j ≢ column → IsFlatType (child_at typed j))
    → TypedOf (exploded_schema column schema) (exploded_type column typed)
spread-typed column Released typed t struct none item flat = absurd t
spread-typed column (Live s fields dict) Released t struct none item flat = absurd t
spread-typed column (Live s fields (present d)) (Live kind kids absent) t struct none item flat = absurd t.2
spread-typed column (Live s fields dict) (Live kind kids (present d)) t struct none item flat = absurd (none-some d (sym none))
spread-typed column (Live s fields absent) (Live kind kids absent) t struct none item flat =
    let lists = subst (λ (fs : Trees SchemaMembers). KidsTyped 2 fs kids) (sym (trees-tree_list fields)) t.1 in
    let both = subst (λ (ks : Trees DataType). KidsTyped 2 (trees (tree_list fields)) ks) (sym (trees-tree_list kids)) lists in
    let node = subst (λ (k : DataType). NodeIs 1 s fields absent k) struct t.0 in
    (record { on_level = node.on_level; format = node.format; meta = node.meta; children = tt; index = tt; map = tt }, kids-set (tree_list fields) (tree_list kids) column _ _ both item flat, tt)
