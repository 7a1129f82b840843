-- What is gathered for groups, and the tree of their lists.
use Rattle.std.proofs.Common.{◌≡◌, ◌∙◌, ◌≤◌, ◌<◌, ◌+◌, ℕ, List, [], ◌∷◌, All, length, map, None, ap, sym, subst, arith}
use Rattle.std.proofs.lemmas.List.Elements.{All-weaker}
use Rattle.std.specs.List.{flat_map}
use Rattle.data_types.specs.promise.Packed.{le_bytes}
use Rattle.data_types.specs.ColumnForms.{HasForm}
use Rattle.data_types.specs.promise.FieldText.{form_of}
use Rattle.data_types.specs.promise.Table.{Flat}
use Rattle.data_types.specs.promise.Value.{Value}
use Rattle.data_types.specs.declared.kind.DataType.{DataType}
use Rattle.tree_model.specs.promise.TreeData.{Live, absent, trees}
use Rattle.raw_array.specs.promise.Members.{ArrayTree}
use Rattle.col_build.specs.Encoding.{Fits}
use Rattle.data_types.specs.promise.ColumnKinds.{type_of_kind}
use Rattle.data_types.specs.promise.KindTrees.{KindTree}
use Rattle.layout_rules.specs.promise.Values.{tree_items, value_at}
use Rattle.layout_rules.specs.promise.Walk.{LayoutOk}
use Rattle.array_laws.specs.Items.{AreApart}
use Rattle.arr_export.specs.promise.ArrayTrees.{column_tree}
use Rattle.column_fill.specs.Gathered.{CanGather, values_at}
use Rattle.data_types.specs.promise.Groups.{distinct, sums_from}
use Rattle.data_types.specs.Groups.{offsets_of, order_of}
use Rattle.list_cols.specs.promise.ListTrees.{list_members, list_tree}
use Rattle.list_cols.specs.NestedGroups.{grouped_lists}
use Rattle.list_cols.proofs.NestedRows.{all-lists, lists-lengths, many-lists}

-- items that are taken once each have an encoding
abbrev pub OnceLaw : KindTree → ArrayTree → Type 0
OnceLaw typed array = (kind : DataType) (start : ℕ) (kept : List ℕ) → typed ≡ type_of_kind (Flat kind) → HasForm (form_of kind)
    → All (λ i. start + i < tree_items array) kept → AreApart kept → Fits kind (map (λ i. value_at typed array (start + i)) kept)

pub all-there : (start count : ℕ) (array : ArrayTree) (kept : List ℕ) → All (λ i. i < count) kept → start + count ≤ tree_items array
    → All (λ i. start + i < tree_items array) kept
all-there start count array kept inside long = All-weaker (λ (i : ℕ). i < count) (λ (i : ℕ). start + i < tree_items array) (λ i lt. omega (arith, lt, long)) kept inside

pub once-fit : (typed : KindTree) (array : ArrayTree) → OnceLaw typed array → (kind : DataType) (start count : ℕ) (kept : List ℕ)
    → typed ≡ type_of_kind (Flat kind) → HasForm (form_of kind) → All (λ i. i < count) kept → start + count ≤ tree_items array → AreApart kept
    → Fits kind (values_at (type_of_kind (Flat kind)) array start kept)
once-fit typed array once kind start count kept type form inside long apart =
    subst (λ (t : KindTree). Fits kind (values_at t array start kept)) type (once kind start kept type form (all-there start count array kept inside long) apart)

pub can-pick : (typed : KindTree) (array : ArrayTree) → OnceLaw typed array → (kind : DataType) (start count : ℕ) (kept : List ℕ)
    → typed ≡ type_of_kind (Flat kind) → HasForm (form_of kind) → LayoutOk (type_of_kind (Flat kind)) array → All (λ i. i < count) kept
    → start + count ≤ tree_items array → AreApart kept
    → CanGather kind array start kept
can-pick typed array once kind start count kept type form ok inside long apart = record {
  ok = ok;
  inside = all-there start count array kept inside long;
  items = once-fit typed array once kind start count kept type form inside long apart;
}

-- this many lists between the groups' offsets, over the items in the groups' order
pub group-tree : (kind : DataType) (typed : KindTree) (array : ArrayTree) (start : ℕ) (vs : List Value) (count : ℕ) (offsets : List ℕ) (order : List ℕ)
    → count ≡ length (distinct vs) → offsets ≡ flat_map (le_bytes 4) (offsets_of vs) → order ≡ order_of vs
    → Live (list_members count offsets) (trees (column_tree kind (values_at typed array start order) None ∷ [])) absent
    ≡ list_tree kind (grouped_lists typed array start vs)
group-tree kind typed array start vs count offsets order many bytes places =
    let number = many ∙ sym (many-lists typed array start vs) in
    let ends = bytes ∙ ap (λ ns. flat_map (le_bytes 4) (sums_from 0 ns)) (sym (lists-lengths typed array start vs)) in
    let values = ap (values_at typed array start) places ∙ sym (all-lists typed array start vs) in
    λ t. Live (list_members (number t) (ends t)) (trees (column_tree kind (values t) None ∷ [])) absent
