-- The field of a list in the schema of a chunk, and the trees that are made.
use Rattle.std.proofs.Common.{◌≡◌, ◌∙◌, ◌≤◌, ◌<◌, ◌^◌, ℕ, zero, suc, true, All, List, length, get_or, None, refl, ap, sym, subst, arith}
use Rattle.std.proofs.lemmas.Option.{none-some}
use Rattle.data_types.specs.promise.FieldText.{form_of}
use Rattle.data_types.specs.ColumnForms.{HasForm}
use Rattle.data_types.specs.promise.Parts.{column_values}
use Rattle.data_types.specs.promise.Table.{Flat, Row}
use Rattle.data_types.specs.declared.kind.DataType.{DataType}
use Rattle.data_types.specs.declared.kind.DataType.TheVariants as kinds
use Rattle.tree_model.specs.promise.TreeData.{Released, Live, Trees, no_trees, more_trees, absent, present, tree_list}
use Rattle.tree_model.specs.promise.TreeParts.{child_at, children_of, dictionary_of, IsLive}
use Rattle.raw_array.specs.promise.Members.{ArrayTree}
use Rattle.raw_schema.specs.promise.Members.{SchemaMembers, SchemaTree}
use Rattle.col_build.specs.Encoding.{Fits}
use Rattle.arr_move.proofs.Filled.{Depth-child_at}
use Rattle.data_types.specs.promise.ColumnKinds.{type_of_kind}
use Rattle.data_types.specs.promise.KindTrees.{KindTree, kind_in}
use Rattle.data_types.specs.KindTrees.{AllNodesOk, NodesOk, TypedOk}
use Rattle.layout_rules.specs.promise.Values.{rows_of}
use Rattle.layout_rules.specs.promise.Walk.{ChunkOk}
use Rattle.schema_check.specs.promise.Schemas.{KidsTyped, TypedFrom, TypedOf}
use Rattle.arr_export.specs.ArrayTrees.{flat_type}
use Rattle.list_cols.specs.promise.Exploded.{exploded_kinds}
use Rattle.list_cols.specs.Exploded.{exploded_array, exploded_type, item_kind}
use Rattle.list_cols.specs.promise.Faults.{explodes, first_wrong}
use Rattle.column_fill.specs.promise.FlatColumns.{is_flat_column}
use Rattle.list_cols.specs.Fields.{HasList, exploded_schema, item_field}
use Rattle.list_cols.specs.FlatTables.{flat_table, flat_table_type}
use Rattle.list_cols.specs.promise.Nested.{Explode}
use Rattle.list_cols.specs.Spreading.{AllFit}
use Rattle.list_cols.proofs.Chunks.{IsChunk, many-kinds, rows-wide}
use Rattle.list_cols.proofs.FieldTypes.{IsFlatType, item-live, item-typed, list-live, spread-typed}
use Rattle.list_cols.proofs.Fitting.{has-item, other-flat, own-flat}
use Rattle.list_cols.proofs.Kids.{flat-dictionary, flat-form, flat-list}

-- ---- children

trees-ok : (ts : Trees DataType) (k : ℕ) → k < length (tree_list ts) → AllNodesOk ts → NodesOk (get_or (tree_list ts) k Released)
trees-ok no_trees k lt ok = absurd (omega (arith, lt))
trees-ok (more_trees t ts) zero lt ok = ok.0
trees-ok (more_trees t ts) (suc k) lt ok = trees-ok ts k (omega (arith, lt)) ok.1

child-ok : (typed : KindTree) (k : ℕ) → TypedOk typed → k < length (children_of typed) → TypedOk (child_at typed k)
child-ok Released k ok lt = absurd ok.1
child-ok (Live kind kids dict) k ok lt = (omega (arith, Depth-child_at (Live kind kids dict) k lt, ok.0), trees-ok kids k lt ok.1.3)

kids-typed : (ss : Trees SchemaMembers) (ts : Trees DataType) (k : ℕ) → KidsTyped 2 ss ts → k < length (tree_list ts)
    → TypedFrom 2 (get_or (tree_list ss) k Released) (get_or (tree_list ts) k Released)
kids-typed no_trees no_trees k t lt = absurd (omega (arith, lt))
kids-typed no_trees (more_trees kid kids) k t lt = absurd t
kids-typed (more_trees s ss) no_trees k t lt = absurd t
kids-typed (more_trees s ss) (more_trees kid kids) zero t lt = t.0
kids-typed (more_trees s ss) (more_trees kid kids) (suc k) t lt = kids-typed ss kids k t.1 (omega (arith, lt))

many-kids-typed : (ss : Trees SchemaMembers) (ts : Trees DataType) → KidsTyped 2 ss ts → length (tree_list ss) ≡ length (tree_list ts)
many-kids-typed no_trees no_trees t = refl
many-kids-typed no_trees (more_trees kid kids) t = absurd t
many-kids-typed (more_trees s ss) no_trees t = absurd t
many-kids-typed (more_trees s ss) (more_trees kid kids) t = ap suc (many-kids-typed ss kids t.1)

field-typed : (schema : SchemaTree) (typed : KindTree) (k : ℕ) → TypedOf schema typed → k < length (children_of typed)
    → TypedFrom 2 (child_at schema k) (child_at typed k)
field-typed Released typed k t lt = absurd t
field-typed (Live s fields dict) Released k t lt = absurd t
field-typed (Live s fields dict) (Live kind kids d) k t lt = kids-typed fields kids k t.1 lt

many-fields : (schema : SchemaTree) (typed : KindTree) → TypedOf schema typed → length (children_of schema) ≡ length (children_of typed)
many-fields Released typed t = absurd t
many-fields (Live s fields dict) Released t = absurd t
many-fields (Live s fields dict) (Live kind kids d) t = many-kids-typed fields kids t.1

schema-live : (schema : SchemaTree) (typed : KindTree) → TypedOf schema typed → IsLive schema
schema-live Released typed t = absurd t
schema-live (Live s fields dict) typed t = tt

no-dictionary : (schema : SchemaTree) (typed : KindTree) → TypedOf schema typed → dictionary_of typed ≡ None → dictionary_of schema ≡ None
no-dictionary Released typed t none = refl
no-dictionary (Live s fields dict) Released t none = absurd t
no-dictionary (Live s fields absent) (Live kind kids d) t none = refl
no-dictionary (Live s fields (present dict)) (Live kind kids absent) t none = absurd t.2
no-dictionary (Live s fields (present dict)) (Live kind kids (present d)) t none = absurd (none-some d (sym none))

-- ---- the schema

abbrev pub FlatLaw : Type 0
FlatLaw = (typed : KindTree) → TypedOk typed → HasForm (form_of (kind_in typed)) → dictionary_of typed ≡ None → typed ≡ type_of_kind (Flat (kind_in typed))

flat-is : FlatLaw → (typed : KindTree) → TypedOk typed → is_flat_column typed ≡ true → IsFlatType typed
flat-is law typed ok flat = law typed ok (flat-form typed flat) (flat-dictionary typed flat)

module _ (column : ℕ) (typed : KindTree) (ok : TypedOk typed) (inside : column < length (children_of typed))
    (fitting : first_wrong (explodes column) 0 (children_of typed) ≡ None) where
  pub has-list : (schema : SchemaTree) → dictionary_of typed ≡ None → TypedOf schema typed → HasList schema column
  has-list schema none t =
      let list = child_at typed column in
      let f = flat-list list (child-ok typed column ok inside) (own-flat column typed fitting inside) in
      let field = subst (λ (l : KindTree). TypedFrom 2 (child_at schema column) l) f.is (field-typed schema typed column t inside) in
      record {
        live = schema-live schema typed t;
        no_dictionary = no-dictionary schema typed t none;
        inside = omega (arith, inside, many-fields schema typed t);
        list = list-live (child_at schema column) f.wide f.kid field;
        item = item-live (child_at schema column) f.wide f.kid field;
      }

  pub exploded-typed : FlatLaw → (schema : SchemaTree) → kind_in typed ≡ kinds.Struct → dictionary_of typed ≡ None → TypedOf schema typed
      → TypedOf (exploded_schema column schema) (exploded_type column typed)
  exploded-typed law schema struct none t =
      let list = child_at typed column in
      let list_ok = child-ok typed column ok inside in
      let flat = own-flat column typed fitting inside in
      let f = flat-list list list_ok flat in
      let field = subst (λ (l : KindTree). TypedFrom 2 (child_at schema column) l) f.is (field-typed schema typed column t inside) in
      let kid_ok = subst TypedOk (ap (λ (l : KindTree). child_at l 0) f.is) (child-ok list 0 list_ok (has-item list flat)) in
      spread-typed column schema typed t struct none
      (subst (λ (l : KindTree). TypedFrom 2 (item_field (child_at schema column)) (flat_type (item_kind l) None)) (sym f.is)
      (item-typed (child_at schema column) f.wide f.kid field (flat-is law f.kid kid_ok f.flat)))
      (λ j lt other. flat-is law (child_at typed j) (child-ok typed j ok lt) (other-flat column typed fitting j lt other))

-- ---- the array

abbrev pub TableChunks : Type 0
TableChunks = (types : List DataType) (rows : List Row) → ((k : ℕ) → k < length types → Fits (get_or types k kinds.Null) (column_values k rows)) → length rows ≤ 2 ^ 40
    → ChunkOk (flat_table_type types) (flat_table types rows)

abbrev pub TableRows : Type 0
TableRows = (types : List DataType) (rows : List Row) → ((k : ℕ) → k < length types → Fits (get_or types k kinds.Null) (column_values k rows))
    → All (λ (row : Row). length row ≡ length types) rows → rows_of (flat_table_type types) (flat_table types rows) ≡ rows

module _ (column : ℕ) (typed : KindTree) (array : ArrayTree) (fits : AllFit column typed array) where
  kinds-fit : (k : ℕ) → k < length (exploded_kinds column typed)
      → Fits (get_or (exploded_kinds column typed) k kinds.Null) (column_values k (Explode column (rows_of typed array)))
  kinds-fit k lt = fits k (omega (arith, lt, many-kinds column typed))

  pub exploded-chunk : TableChunks → length (Explode column (rows_of typed array)) ≤ 2 ^ 40 → ChunkOk (exploded_type column typed) (exploded_array column typed array)
  exploded-chunk law few = law (exploded_kinds column typed) (Explode column (rows_of typed array)) kinds-fit few

  pub exploded-rows : TableRows → IsChunk typed array → column < length (children_of typed)
      → rows_of (exploded_type column typed) (exploded_array column typed array) ≡ Explode column (rows_of typed array)
  exploded-rows law is inside =
      law (exploded_kinds column typed) (Explode column (rows_of typed array)) kinds-fit
      (λ k d lt. rows-wide column typed array is inside k d lt ∙ sym (many-kinds column typed))
