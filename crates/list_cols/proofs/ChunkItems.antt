-- The values of the new columns are items of the old ones.
use Rattle.std.proofs.Common.{◌≡◌, ◌∙◌, ◌≤◌, ◌<◌, ◌+◌, ℕ, zero, suc, true, List, [], ◌∷◌, All, length, replicate, refl, ap, sym, subst, inr, arith}
use Rattle.std.proofs.lemmas.Bool.{false≢true}
use Rattle.std.proofs.lemmas.List.Elements.{All-append, All-head, All-replicate, All-tail}
use Rattle.std.specs.List.{flat_map}
use Rattle.data_types.specs.promise.Value.{Value}
use Rattle.tree_model.specs.promise.TreeData.{Released, Live}
use Rattle.tree_model.specs.promise.TreeParts.{IsLive, child_at, children_of}
use Rattle.raw_array.specs.promise.Members.{ArrayTree, members_of}
use Rattle.data_types.specs.promise.KindTrees.{KindTree}
use Rattle.data_types.specs.KindTrees.{TypedOk}
use Rattle.layout_rules.specs.promise.Layout.{first}
use Rattle.layout_rules.specs.Lawful.{ItemsHold, RootHolds}
use Rattle.layout_rules.specs.promise.Values.{each, tree_items, value_at}
use Rattle.arr_import.specs.Window.{Window, item_at, whole}
use Rattle.column_fill.specs.Gathered.{values_of_runs}
use Rattle.column_fill.specs.declared.runs.Run.{Run}
use Rattle.array_laws.specs.Items.{IsItemOf}
use Rattle.list_cols.specs.promise.Faults.{is_flat_list}
use Rattle.column_fill.specs.promise.FlatColumns.{is_flat_column}
use Rattle.list_cols.specs.Listed.{listed, run_of}
use Rattle.list_cols.specs.promise.Nested.{items_in}
use Rattle.list_cols.specs.Spreading.{chunk_runs, list_at}
use Rattle.list_cols.proofs.Chunks.{IsChunk, ItemsLaw, RootLaw, reaches, row-item}
use Rattle.list_cols.proofs.Kids.{IsFlatList, flat-list}
use Rattle.list_cols.proofs.ListItems.{all-lists, list-items}

-- ---- a list

pub flat-live : (typed : KindTree) → is_flat_column typed ≡ true → IsLive typed
flat-live Released e = absurd (false≢true e)
flat-live (Live kind kids dict) e = tt

not-released : (typed : KindTree) → is_flat_column typed ≡ true → typed ≡ Released → ⊥
not-released typed flat e = subst IsLive e (flat-live typed flat)

pub list-live : (list : KindTree) → is_flat_list list ≡ true → IsLive list
list-live Released e = absurd (false≢true e)
list-live (Live kind kids dict) e = tt

one-list : (list : KindTree) (child : ArrayTree) → IsFlatList list → RootHolds list child → ItemsHold list child → (i : ℕ) → i < tree_items child
    → All (IsItemOf (child_at list 0) (child_at child 0)) (items_in (value_at list child i))
one-list list child f root items i lt =
    subst (λ (l : KindTree). All (IsItemOf (child_at l 0) (child_at child 0)) (items_in (value_at l child i))) (sym f.is)
    (list-items f.wide f.kid child (subst (λ (l : KindTree). RootHolds l child) f.is root) (subst (λ (l : KindTree). ItemsHold l child) f.is items)
    (not-released f.kid f.flat) i lt)

-- ---- runs

all-runs : (P : Value → Type 0) (f : ℕ → Value) (Q : ℕ → Type 0) (runs : List Run) → All (λ (run : Run). Q run.item) runs → ((i : ℕ) → Q i → P (f i))
    → All P (flat_map (λ (run : Run). replicate run.times (f run.item)) runs)
all-runs P f Q [] all at = λ k d lt. absurd (omega (arith, lt))
all-runs P f Q (run ∷ runs) all at =
    All-append P (replicate run.times (f run.item)) (flat_map (λ (r : Run). replicate r.times (f r.item)) runs)
    (All-replicate P run.times (f run.item) (at run.item (All-head (λ (r : Run). Q r.item) run runs all)))
    (all-runs P f Q runs (All-tail (λ (r : Run). Q r.item) run runs all) at)

runs-below : (start most : ℕ) (lists : ℕ → Value) (from n : ℕ) → start + (from + n) ≤ most
    → All (λ (run : Run). run.item < most) (each (λ i. run_of (start + i) (lists i)) from n)
runs-below start most lists from zero le k d lt = absurd (omega (arith, lt))
runs-below start most lists from (suc n) le zero d lt = omega (arith, le)
runs-below start most lists from (suc n) le (suc k) d lt = runs-below start most lists (suc from) n (omega (arith, le)) k d (omega (arith, lt))

-- ---- the items of a whole array

plus-zero : (k : ℕ) → 0 + k ≡ k
plus-zero k = omega arith

pub items-of-runs : (w : Window) (t : KindTree) (a : ArrayTree) (runs : List Run) → w ≡ whole t a
    → flat_map (λ (run : Run). replicate run.times (item_at w run.item)) runs ≡ values_of_runs t a runs
items-of-runs w t a runs e =
    ap (λ (v : Window). flat_map (λ (run : Run). replicate run.times (item_at v run.item)) runs) e
    ∙ (λ j. flat_map (λ (run : Run). replicate run.times (value_at t a (plus-zero run.item j))) runs)

module _ (column : ℕ) (typed : KindTree) (array : ArrayTree) (is : IsChunk typed array) (inside : column < length (children_of typed)) where
  -- the items of the lists are those of the list's child
  pub own-items : RootLaw → ItemsLaw → TypedOk (child_at typed column) → is_flat_list (child_at typed column) ≡ true
      → All (IsItemOf (child_at (child_at typed column) 0) (child_at (child_at array column) 0)) (listed (list_at column typed array) (tree_items array))
  own-items root items ok flat =
      let list = child_at typed column in
      let child = child_at array column in
      let P = IsItemOf (child_at list 0) (child_at child 0) in
      let live = list-live list flat in
      let lawful = is.parts.kids column inside in
      all-lists P (list_at column typed array) 0 (tree_items array)
      (λ j small.
      let lt : first (members_of array) + (0 + j) < tree_items child = omega (arith, small, reaches column typed array is inside column live) in
      subst (λ (v : Value). All P (items_in v)) (sym (row-item column typed array is inside column (0 + j) inside))
      (one-list list child (flat-list list ok flat) (root list child live lawful) (items list child live lawful) (first (members_of array) + (0 + j)) lt))

  -- each row has an item of another column
  pub runs-inside : (k : ℕ) → IsLive (child_at typed k) → All (λ (run : Run). run.item < tree_items (child_at array k)) (chunk_runs column typed array)
  runs-inside k live =
      runs-below (first (members_of array)) (tree_items (child_at array k)) (list_at column typed array) 0 (tree_items array)
      (omega (arith, reaches column typed array is inside k live))

  pub other-items : (k : ℕ) → IsLive (child_at typed k)
      → All (IsItemOf (child_at typed k) (child_at array k)) (values_of_runs (child_at typed k) (child_at array k) (chunk_runs column typed array))
  other-items k live =
      all-runs (IsItemOf (child_at typed k) (child_at array k)) (value_at (child_at typed k) (child_at array k)) (λ i. i < tree_items (child_at array k))
      (chunk_runs column typed array) (runs-inside k live) (λ i lt. inr (i, lt, refl))
