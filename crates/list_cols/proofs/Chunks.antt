-- The rows of a lawful chunk, and the columns of the rows whose lists are spread out.
use Rattle.std.proofs.Common.{◌≡◌, ◌≢◌, ◌∙◌, ◌≤◌, ◌<◌, ◌+◌, ◌^◌, ℕ, zero, suc, List, [], ◌∷◌, ◌++◌, All, length, map, get_or, replicate, refl, ap, sym, arith}
use Rattle.std.proofs.lemmas.List.{get_or-map, get_or-set_other, get_or-set_same, length-map, length-set}
use Rattle.std.specs.List.{flat_map}
use Rattle.data_types.specs.promise.Parts.{column_values}
use Rattle.data_types.specs.promise.Table.{Row}
use Rattle.data_types.specs.promise.Value.{Value, Null}
use Rattle.data_types.specs.declared.kind.DataType.{DataType}
use Rattle.data_types.specs.declared.kind.DataType.TheVariants as kinds
use Rattle.tree_model.specs.promise.TreeData.{Released, Live, Trees, no_trees, more_trees, tree_list}
use Rattle.tree_model.specs.promise.TreeParts.{IsLive, child_at, children_of}
use Rattle.raw_array.specs.promise.Members.{ArrayTree, members_of}
use Rattle.data_types.specs.promise.KindTrees.{KindTree, kind_in}
use Rattle.layout_rules.specs.promise.Layout.{first, layout_of}
use Rattle.layout_rules.specs.Lawful.{ChunkHolds, ItemsHold, PartsHold, RootHolds}
use Rattle.layout_rules.specs.promise.Rules.{items_need}
use Rattle.layout_rules.specs.promise.Values.{each, field_items, readers, row_items, rows_of, tree_items, value_at}
use Rattle.layout_rules.specs.promise.Walk.{ChunkOk, LayoutOk}
use Rattle.column_fill.specs.Gathered.{values_of_runs}
use Rattle.list_cols.specs.promise.Exploded.{exploded_kinds}
use Rattle.list_cols.specs.Exploded.{item_kind}
use Rattle.list_cols.specs.Listed.{listed, run_of}
use Rattle.list_cols.specs.promise.Nested.{Explode, items_in}
use Rattle.list_cols.specs.Spreading.{chunk_runs, list_at}
use Rattle.list_cols.proofs.Spread.{others, own, widths}

-- ---- the items of a row

field-long : (kids : Trees DataType) (cs : List ArrayTree) (i : ℕ) → length cs ≡ length (tree_list kids)
    → length (field_items (readers kids) cs i) ≡ length (tree_list kids)
field-long no_trees cs i e = refl
field-long (more_trees kid kids) [] i e = absurd (omega (arith, e))
field-long (more_trees kid kids) (c ∷ cs) i e = ap suc (field-long kids cs i (omega (arith, e)))

field-at : (kids : Trees DataType) (cs : List ArrayTree) (i k : ℕ) → length cs ≡ length (tree_list kids) → k < length (tree_list kids)
    → get_or (field_items (readers kids) cs i) k Null ≡ value_at (get_or (tree_list kids) k Released) (get_or cs k Released) i
field-at no_trees cs i k e lt = absurd (omega (arith, lt))
field-at (more_trees kid kids) [] i k e lt = absurd (omega (arith, e))
field-at (more_trees kid kids) (c ∷ cs) i zero e lt = refl
field-at (more_trees kid kids) (c ∷ cs) i (suc k) e lt = field-at kids cs i k (omega (arith, e)) (omega (arith, lt))

-- ---- what holds of a lawful chunk

pub record IsChunk (typed : KindTree) (array : ArrayTree) : Type 0 where
  pub live : IsLive typed
  pub root : RootHolds typed array
  pub parts : PartsHold typed array
  pub items : ItemsHold typed array
  pub top : ChunkHolds typed array

abbrev pub RootLaw : Type 0
RootLaw = (typed : KindTree) (array : ArrayTree) → IsLive typed → LayoutOk typed array → RootHolds typed array

abbrev pub PartsLaw : Type 0
PartsLaw = (typed : KindTree) (array : ArrayTree) → IsLive typed → LayoutOk typed array → PartsHold typed array

abbrev pub ItemsLaw : Type 0
ItemsLaw = (typed : KindTree) (array : ArrayTree) → IsLive typed → LayoutOk typed array → ItemsHold typed array

abbrev pub TopLaw : Type 0
TopLaw = (typed : KindTree) (array : ArrayTree) → IsLive typed → ChunkOk typed array → ChunkHolds typed array

pub chunk-is : RootLaw → PartsLaw → ItemsLaw → TopLaw → (typed : KindTree) (array : ArrayTree) → IsLive typed → ChunkOk typed array → IsChunk typed array
chunk-is root parts items top typed array live ok = record {
  live = live;
  root = root typed array live ok.0;
  parts = parts typed array live ok.0;
  items = items typed array live ok.0;
  top = top typed array live ok;
}

-- ---- its rows

long-of : (typed : KindTree) (array : ArrayTree) → IsLive typed → IsLive array → length (children_of array) ≡ length (children_of typed) → (i : ℕ)
    → length (row_items typed array i) ≡ length (children_of typed)
long-of Released array l a e i = absurd l
long-of (Live kind kids d) Released l a e i = absurd a
long-of (Live kind kids d) (Live m children dict) l a e i = field-long kids (tree_list children) (first m + i) e

item-of : (typed : KindTree) (array : ArrayTree) → IsLive typed → IsLive array → length (children_of array) ≡ length (children_of typed) → (k i : ℕ)
    → k < length (children_of typed)
    → get_or (row_items typed array i) k Null ≡ value_at (child_at typed k) (child_at array k) (first (members_of array) + i)
item-of Released array l a e k i lt = absurd l
item-of (Live kind kids d) Released l a e k i lt = absurd a
item-of (Live kind kids d) (Live m children dict) l a e k i lt = field-at kids (tree_list children) (first m + i) k e lt

-- ---- the runs

runs-from : (t : KindTree) (a : ArrayTree) (start : ℕ) (lists : ℕ → Value) (from n : ℕ)
    → values_of_runs t a (each (λ i. run_of (start + i) (lists i)) from n)
    ≡ flat_map (λ i. replicate (length (items_in (lists i))) (value_at t a (start + i))) (each (λ (i : ℕ). i) from n)
runs-from t a start lists from zero = refl
runs-from t a start lists from (suc n) =
    ap (λ (vs : List Value). replicate (length (items_in (lists from))) (value_at t a (start + from)) ++ vs) (runs-from t a start lists (suc from) n)

pub many-kinds : (column : ℕ) (typed : KindTree) → length (exploded_kinds column typed) ≡ length (children_of typed)
many-kinds column typed =
    length-set (map kind_in (children_of typed)) column (item_kind (child_at typed column)) ∙ length-map (children_of typed) kind_in

module _ (column : ℕ) (typed : KindTree) (array : ArrayTree) (is : IsChunk typed array) (inside : column < length (children_of typed)) where
  pub row-long : (i : ℕ) → length (row_items typed array i) ≡ length (children_of typed)
  row-long i = long-of typed array is.live is.root.live is.root.kids i

  pub row-item : (k i : ℕ) → k < length (children_of typed)
      → get_or (row_items typed array i) k Null ≡ value_at (child_at typed k) (child_at array k) (first (members_of array) + i)
  row-item k i lt = item-of typed array is.live is.root.live is.root.kids k i lt

  -- the column that is spread out has the items of the lists
  pub own-values : column_values column (Explode column (rows_of typed array)) ≡ listed (list_at column typed array) (tree_items array)
  own-values = own (row_items typed array) (list_at column typed array) column (length (children_of typed)) inside row-long (λ i. refl) 0 (tree_items array)

  pub many-rows : length (Explode column (rows_of typed array)) ≡ length (listed (list_at column typed array) (tree_items array))
  many-rows =
      sym (length-map (Explode column (rows_of typed array)) (λ (row : Row). get_or row column Null)) ∙ ap length own-values

  pub many-values : (k : ℕ) → length (column_values k (Explode column (rows_of typed array))) ≡ length (Explode column (rows_of typed array))
  many-values k = length-map (Explode column (rows_of typed array)) (λ (row : Row). get_or row k Null)

  -- another has an item of each row, as often as the row's list has items
  pub other-values : (k : ℕ) → k ≢ column → k < length (children_of typed)
      → column_values k (Explode column (rows_of typed array)) ≡ values_of_runs (child_at typed k) (child_at array k) (chunk_runs column typed array)
  other-values k other lt =
      others (row_items typed array) (list_at column typed array) column (length (children_of typed)) inside row-long (λ i. refl) k
      (λ i. value_at (child_at typed k) (child_at array k) (first (members_of array) + i)) other (λ i. row-item k i lt) 0 (tree_items array)
      ∙ sym (runs-from (child_at typed k) (child_at array k) (first (members_of array)) (list_at column typed array) 0 (tree_items array))

  pub rows-wide : All (λ (row : Row). length row ≡ length (children_of typed)) (Explode column (rows_of typed array))
  rows-wide = widths (row_items typed array) (list_at column typed array) column (length (children_of typed)) inside row-long (λ i. refl) 0 (tree_items array)

  -- ---- the types

  pub own-kind : get_or (exploded_kinds column typed) column kinds.Null ≡ item_kind (child_at typed column)
  own-kind =
      get_or-set_same (map kind_in (children_of typed)) column (item_kind (child_at typed column)) kinds.Null
      (omega (arith, inside, length-map (children_of typed) kind_in))

  pub other-kind : (k : ℕ) → k ≢ column → k < length (children_of typed) → get_or (exploded_kinds column typed) k kinds.Null ≡ kind_in (child_at typed k)
  other-kind k other lt =
      get_or-set_other (map kind_in (children_of typed)) column k (item_kind (child_at typed column)) kinds.Null other
      ∙ get_or-map kind_in (children_of typed) k Released kinds.Null lt

  -- ---- the children

  -- a child has an item for each row
  pub reaches : (k : ℕ) → IsLive (child_at typed k) → first (members_of array) + tree_items array ≤ tree_items (child_at array k)
  reaches k l =
      let need = ap (λ (kind : DataType). items_need (layout_of kind) (members_of array)) is.top.kind in
      omega (arith, need, is.items.needed k l, is.root.many)

  -- the first row and those behind it
  pub near : first (members_of array) + tree_items array ≤ 2 ^ 40
  near = omega (arith, is.root.many, is.root.near)
