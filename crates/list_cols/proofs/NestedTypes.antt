-- The kinds of the schema of grouped rows.
use Rattle.std.proofs.Common.{◌≡◌, ◌∙◌, ◌<◌, ◌+◌, ℕ, suc, List, [], ◌∷◌, Bool, true, false, length, map, get_or, Option, None, Some, refl, ap, sym, subst, arith}
use Rattle.std.proofs.lemmas.List.{get_or-map, length-map}
use Rattle.std.proofs.lemmas.Option.{none-some}
use Rattle.std.specs.Prelude.{if◌then◌else◌, ◌==◌}
use Rattle.data_types.specs.declared.kind.DataType.{DataType}
use Rattle.data_types.specs.declared.kind.DataType.TheVariants as kinds
use Rattle.fmt_string.specs.promise.FormatString.{FormatIs}
use Rattle.tree_model.specs.promise.TreeData.{Released, Live, Trees, no_trees, more_trees, absent, present, trees, tree_list}
use Rattle.tree_model.specs.promise.TreeParts.{child_at, children_of, dictionary_of}
use Rattle.tree_model.proofs.Lists.{trees-tree_list}
use Rattle.raw_schema.specs.promise.Members.{SchemaMembers, SchemaTree}
use Rattle.data_types.specs.promise.KindTrees.{KindTree, kind_in}
use Rattle.layout_rules.specs.promise.Values.{each}
use Rattle.schema_check.specs.promise.Schemas.{KidsTyped, NodeIs, TypedFrom, TypedOf}
use Rattle.arr_export.specs.ArrayTrees.{flat_type}
use Rattle.list_cols.specs.Fields.{renamed_field}
use Rattle.list_cols.specs.ListTrees.{list_kind}
use Rattle.list_cols.specs.NestedFields.{item_name, list_field, list_format, nested_field, nested_schema}
use Rattle.list_cols.specs.NestedTables.{kind_at, nested_kind, nested_type}
use Rattle.list_cols.proofs.FieldTypes.{IsFlatType}

module _ (spelled : FormatIs list_format (kinds.List false)) where
  -- ---- one field

  item-typed : (name : Option (List ℕ)) (field : SchemaTree) (kind : DataType) → TypedFrom 2 field (flat_type kind None)
      → TypedFrom 3 (renamed_field name field) (flat_type kind None)
  item-typed name Released kind t = absurd t
  item-typed name (Live s (more_trees kid kids) dict) kind t = absurd t.1
  item-typed name (Live s no_trees (present dict)) kind t = absurd t.2
  item-typed name (Live s no_trees absent) kind t = (
    record {
      on_level = omega arith;
      format = t.0.format;
      meta = t.0.meta;
      children = t.0.children;
      index = tt;
      map = t.0.map;
    },
    tt,
    tt,
  )

  field-typed : (b : Bool) (field : SchemaTree) (kind : DataType) → TypedFrom 2 field (flat_type kind None)
      → TypedFrom 2 (if b then field else list_field field) (if b then flat_type kind None else list_kind kind)
  field-typed true field kind t = t
  field-typed false field kind t = (
    record {
      on_level = omega arith;
      format = spelled;
      meta = tt;
      children = refl;
      index = tt;
      map = tt;
    },
    (item-typed (Some item_name) field kind t, tt),
    tt,
  )

  -- ---- all fields

  fields-typed : (column : ℕ) (schema : SchemaTree) (types : List DataType) (ss : List SchemaTree) (ts : List KindTree) (a : ℕ)
      → KidsTyped 2 (trees ss) (trees ts) → ((i : ℕ) → i < length ss → child_at schema (a + i) ≡ get_or ss i Released)
      → ((i : ℕ) → i < length ts → flat_type (kind_at types (a + i)) None ≡ get_or ts i Released)
      → KidsTyped 2 (trees (each (nested_field column schema) a (length ss))) (trees (each (nested_kind column types) a (length ts)))
  fields-typed column schema types [] [] a k news olds = tt
  fields-typed column schema types [] (t ∷ ts) a k news olds = absurd k
  fields-typed column schema types (s ∷ ss) [] a k news olds = absurd k
  fields-typed column schema types (s ∷ ss) (t ∷ ts) a k news olds =
      let start : a + 0 ≡ a = omega arith in
      let field : s ≡ child_at schema a = sym (news 0 (omega arith)) ∙ ap (child_at schema) start in
      let type : t ≡ flat_type (kind_at types a) None = sym (olds 0 (omega arith)) ∙ ap (λ n. flat_type (kind_at types n) None) start in
      let here : TypedFrom 2 (child_at schema a) (flat_type (kind_at types a) None) =
      subst (λ (u : KindTree). TypedFrom 2 (child_at schema a) u) type (subst (λ (u : SchemaTree). TypedFrom 2 u t) field k.0) in (
        field-typed (a == column) (child_at schema a) (kind_at types a) here,
        fields-typed column schema types ss ts (suc a) k.1
            (λ i lt. let place : suc a + i ≡ a + suc i = omega arith in ap (child_at schema) place ∙ news (suc i) (omega (arith, lt)))
            (λ i lt. let place : suc a + i ≡ a + suc i = omega arith in
            ap (λ n. flat_type (kind_at types n) None) place ∙ olds (suc i) (omega (arith, lt))),
      )

  pub nested-typed : (column : ℕ) (schema : SchemaTree) (typed : KindTree) → TypedOf schema typed → kind_in typed ≡ kinds.Struct → dictionary_of typed ≡ None
      → ((k : ℕ) → k < length (children_of typed) → IsFlatType (child_at typed k))
      → TypedOf (nested_schema column schema) (nested_type column typed)
  nested-typed column Released typed t struct none flat = absurd t
  nested-typed column (Live s fields dict) Released t struct none flat = absurd t
  nested-typed column (Live s fields (present d)) (Live kind kids absent) t struct none flat = absurd t.2
  nested-typed column (Live s fields dict) (Live kind kids (present d)) t struct none flat = absurd (none-some d (sym none))
  nested-typed column (Live s fields absent) (Live kind kids absent) t struct none flat =
      let lists = subst (λ (fs : Trees SchemaMembers). KidsTyped 2 fs kids) (sym (trees-tree_list fields)) t.1 in
      let both = subst (λ (ks : Trees DataType). KidsTyped 2 (trees (tree_list fields)) ks) (sym (trees-tree_list kids)) lists in
      let node = subst (λ (k : DataType). NodeIs 1 s fields absent k) struct t.0 in
      let types = map kind_in (tree_list kids) in
      let all = fields-typed column (Live s fields absent) types (tree_list fields) (tree_list kids) 0 both
      (λ i lt. let place : 0 + i ≡ i = omega arith in ap (child_at (Live s fields absent)) place)
      (λ i lt. let place : 0 + i ≡ i = omega arith in
      ap (λ n. flat_type (kind_at types n) None) place ∙ ap (λ (k : DataType). flat_type k None) (get_or-map kind_in (tree_list kids) i Released kinds.Null lt)
      ∙ sym (flat i lt)) in (
        record { on_level = node.on_level; format = node.format; meta = node.meta; children = tt; index = tt; map = tt },
        subst (λ n. KidsTyped 2 (trees (each (nested_field column (Live s fields absent)) 0 (length (tree_list fields)))) (trees (each (nested_kind column types) 0 n)))
            (sym (length-map (tree_list kids) kind_in)) all,
        tt,
      )
