-- The columns of a lawful chunk that are all of flat types.
use Rattle.std.proofs.Common.{◌≡◌, ◌≤◌, ◌<◌, ◌+◌, ◌^◌, ℕ, List, length, map, get_or, None, ap, sym, subst, arith}
use Rattle.std.proofs.lemmas.List.{get_or-map, length-map}
use Rattle.data_types.specs.ColumnForms.{HasForm}
use Rattle.data_types.specs.promise.FieldText.{form_of}
use Rattle.data_types.specs.promise.Parts.{column_values}
use Rattle.data_types.specs.promise.Table.{Flat}
use Rattle.data_types.specs.promise.Value.{Value, Null}
use Rattle.data_types.specs.declared.kind.DataType.{DataType}
use Rattle.data_types.specs.declared.kind.DataType.TheVariants as kinds
use Rattle.tree_model.specs.promise.TreeData.{Released}
use Rattle.tree_model.specs.promise.TreeParts.{IsLive, child_at, children_of, dictionary_of}
use Rattle.raw_array.specs.promise.Members.{ArrayTree, members_of}
use Rattle.col_build.specs.Encoding.{Fits}
use Rattle.data_types.specs.promise.ColumnKinds.{type_of_kind}
use Rattle.data_types.specs.promise.KindTrees.{KindTree, kind_in}
use Rattle.data_types.specs.KindTrees.{TypedOk}
use Rattle.layout_rules.specs.promise.Layout.{first}
use Rattle.layout_rules.specs.promise.Values.{row_items, rows_of, tree_items, value_at}
use Rattle.layout_rules.specs.promise.Walk.{LayoutOk}
use Rattle.column_fill.specs.Gathered.{values_at}
use Rattle.data_types.specs.promise.Groups.{distinct}
use Rattle.data_types.specs.Groups.{order_of}
use Rattle.row_groups.specs.Items.{items_from}
use Rattle.list_cols.specs.ListTrees.{FitLists}
use Rattle.list_cols.specs.Faults.{nests}
use Rattle.list_cols.specs.NestedGroups.{CanNest, grouped_lists, row_keys}
use Rattle.list_cols.specs.promise.NestedTables.{lists_of}
use Rattle.list_cols.specs.NestedTables.{kind_at}
use Rattle.list_cols.proofs.Chunks.{ItemsLaw, PartsLaw, RootLaw, TopLaw, chunk-is, near, reaches, row-item}
use Rattle.list_cols.proofs.Kids.{flat-dictionary, flat-form, none-wrong}
use Rattle.list_cols.proofs.NestedRows.{all-lists, column-each, few-distinct, key-values, many-lists}

-- a flat type has no children
abbrev pub FlatLaw : Type 0
FlatLaw = (typed : KindTree) → TypedOk typed → HasForm (form_of (kind_in typed)) → dictionary_of typed ≡ None → typed ≡ type_of_kind (Flat (kind_in typed))

-- ---- a column of a chunk

pub record IsFlatKid (typed : KindTree) (array : ArrayTree) (k : ℕ) : Type 0 where
  pub type : child_at typed k ≡ type_of_kind (Flat (kind_in (child_at typed k)))
  pub form : HasForm (form_of (kind_in (child_at typed k)))
  pub kind : kind_at (map kind_in (children_of typed)) k ≡ kind_in (child_at typed k)
  pub lawful : LayoutOk (child_at typed k) (child_at array k)
  pub long : first (members_of array) + tree_items array ≤ tree_items (child_at array k)
  pub near : first (members_of array) + tree_items array ≤ 2 ^ 40
  pub item : (i : ℕ) → get_or (row_items typed array i) k Null ≡ value_at (child_at typed k) (child_at array k) (first (members_of array) + i)

pub flat-live : (typed : KindTree) → typed ≡ type_of_kind (Flat (kind_in typed)) → IsLive typed
flat-live typed e = subst IsLive (sym e) tt

pub flat-kid : RootLaw → PartsLaw → ItemsLaw → TopLaw → FlatLaw → (column : ℕ) (typed : KindTree) (array : ArrayTree) → IsLive typed
    → CanNest column typed array → (k : ℕ) → k < length (children_of typed) → TypedOk (child_at typed k) → IsFlatKid typed array k
flat-kid roots parts items tops flats column typed array live can k lt ok =
    let is = chunk-is roots parts items tops typed array live can.chunk in
    let good = none-wrong nests 0 (children_of typed) can.fitting k lt in
    let form = flat-form (child_at typed k) good in
    let type = flats (child_at typed k) ok form (flat-dictionary (child_at typed k) good) in
    record {
      type = type;
      form = form;
      kind = get_or-map kind_in (children_of typed) k Released kinds.Null lt;
      lawful = is.parts.kids k lt;
      long = reaches column typed array is can.inside k (flat-live (child_at typed k) type);
      near = near column typed array is can.inside;
      item = λ i. row-item column typed array is can.inside k i lt;
    }

-- ---- its values, and the lists of groups

module _ (typed : KindTree) (array : ArrayTree) (k : ℕ) (kid : IsFlatKid typed array k) where
  pub kid-values : column_values k (rows_of typed array) ≡ items_from (child_at typed k) (child_at array k) (first (members_of array)) (tree_items array)
  kid-values =
      column-each (row_items typed array) k (λ i. value_at (child_at typed k) (child_at array k) (first (members_of array) + i)) kid.item 0 (tree_items array)

  pub kid-lists : (column : ℕ)
      → lists_of column (rows_of typed array) k
      ≡ grouped_lists (child_at typed k) (child_at array k) (first (members_of array)) (row_keys column typed array)
  kid-lists column = λ t. map (λ (key : Value).
      key-values (row_items typed array) column k key (λ i. value_at (child_at typed k) (child_at array k) (first (members_of array) + i)) kid.item 0
      (tree_items array) t) (distinct (row_keys column typed array))

-- lists of items that have an encoding, and of which there aren't too many
pub lists-fit : (kind : DataType) (typed : KindTree) (array : ArrayTree) (start : ℕ) (vs : List Value)
    → Fits kind (values_at typed array start (order_of vs)) → length (order_of vs) ≡ length vs → length vs < 2 ^ 31
    → FitLists kind (grouped_lists typed array start vs)
lists-fit kind typed array start vs fits all small =
    let same = all-lists typed array start vs in
    let long = length-map (order_of vs) (λ (i : ℕ). value_at typed array (start + i)) in
    record {
      values = subst (Fits kind) (sym same) fits;
      reached = omega (arith, ap length same, long, all, small);
      few = omega (arith, many-lists typed array start vs, few-distinct vs, small);
    }
