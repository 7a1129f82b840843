-- A column of a chunk, as the code keeps it.
use Rattle.std.proofs.Common.{◌≡◌, ◌≢◌, ◌∙◌, ◌≤◌, ◌<◌, ◌+◌, ◌^◌, ℕ, List, [], ◌∷◌, All, true, false, length, map, get_or, None, refl, ap, sym, subst, arith}
use Rattle.std.proofs.lemmas.Bool.{eq-eqb, eqb-false, eqb-true, ltb-false, ltb-true, ne_eqb}
use Rattle.std.proofs.lemmas.List.{length-map}
use Rattle.std.proofs.lemmas.List.Elements.{All-map, All-weaker}
use Rattle.std.specs.List.{position_or_len}
use Rattle.std.specs.Prelude.{if◌then◌else◌, nat_lt, ◌==◌, Bool}
use Rattle.data_types.specs.ColumnForms.{HasForm}
use Rattle.data_types.specs.promise.FieldText.{form_of}
use Rattle.data_types.specs.promise.Table.{Flat}
use Rattle.data_types.specs.promise.Value.{Value, Null}
use Rattle.data_types.specs.declared.kind.DataType.{DataType}
use Rattle.tree_model.specs.promise.TreeData.{Released}
use Rattle.tree_model.specs.promise.TreeParts.{child_at, children_of}
use Rattle.raw_array.specs.promise.Members.{ArrayTree, members_of}
use Rattle.col_build.specs.Encoding.{Fits}
use Rattle.data_types.specs.promise.ColumnKinds.{type_of_kind}
use Rattle.data_types.specs.promise.KindTrees.{KindTree, kind_in}
use Rattle.data_types.specs.KindTrees.{TypedOk}
use Rattle.data_types.specs.promise.TypedView.{typed_of}
use Rattle.data_types.specs.TypedView.{kids_of, kind_of}
use Rattle.data_types.specs.declared.typed.Typed.{Typed, out-Typed}
use Rattle.layout_rules.specs.promise.Layout.{first}
use Rattle.layout_rules.specs.promise.Values.{row_items, rows_of, tree_items, value_at}
use Rattle.layout_rules.specs.promise.Walk.{LayoutOk}
use Rattle.arr_export.specs.promise.ArrayTrees.{column_tree}
use Rattle.arr_export.proofs.Each.{length-each}
use Rattle.array_laws.specs.Items.{AreApart}
use Rattle.column_fill.specs.Gathered.{CanGather, CanGatherRuns, values_at, values_of_runs}
use Rattle.column_fill.specs.declared.runs.Run.{Run}
use Rattle.data_types.specs.promise.Groups.{distinct, same as same_as}
use Rattle.data_types.specs.Groups.{firsts_of, offsets_of, order_of}
use Rattle.row_groups.specs.Items.{items_from}
use Rattle.row_groups.specs.declared.groups.Groups.{Groups}
use Rattle.list_cols.specs.promise.ListTrees.{list_tree}
use Rattle.list_cols.specs.ListTrees.{FitLists}
use Rattle.list_cols.specs.NestedGroups.{AreFirsts, AreGroups, AreRowGroups, CanNest, HasItems, grouped_lists, row_keys, run_at}
use Rattle.list_cols.specs.promise.NestedTables.{keys_of, lists_of, nested_column}
use Rattle.list_cols.specs.NestedTables.{FitColumn, kind_at}
use Rattle.list_cols.proofs.Kids.{IsLevel, kid-is, kid-ok, kids-are, level-live}
use Rattle.list_cols.proofs.Chunks.{ItemsLaw, PartsLaw, RootLaw, TopLaw}
use Rattle.list_cols.proofs.NestedChunks.{FlatLaw, IsFlatKid, flat-kid, kid-lists, kid-values, lists-fit}
use Rattle.list_cols.proofs.NestedGather.{OnceLaw, can-pick, once-fit}

-- an item once of each
pub runs-values : (typed : KindTree) (array : ArrayTree) (start : ℕ) (kept : List ℕ)
    → values_of_runs typed array (map (run_at start) kept) ≡ values_at typed array start kept
runs-values typed array start [] = refl
runs-values typed array start (i ∷ kept) = ap (λ vs. value_at typed array (start + i) ∷ vs) (runs-values typed array start kept)

pub record KidIs (t kid : Typed) (array child : ArrayTree) (k : ℕ) : Type 0 where
  pub ok : TypedOk (typed_of kid)
  pub same : child_at (typed_of t) k ≡ typed_of kid
  pub is_child : child ≡ child_at array k
  pub flat : IsFlatKid (typed_of t) array k
  pub kind : kind_in (child_at (typed_of t) k) ≡ kind_of kid
  pub typed : typed_of kid ≡ type_of_kind (Flat (kind_of kid))
  pub form : HasForm (form_of (kind_of kid))
  pub inner : kind_in (typed_of kid) ≡ kind_of kid
  pub lawful : LayoutOk (typed_of kid) child

pub kid-here : (t kid : Typed) (array child : ArrayTree) (column k : ℕ) → IsLevel t → IsLevel kid → TypedOk (typed_of t) → k < length (kids_of t)
    → kid ≡ get_or (out-Typed t).kids.items k kid → child ≡ child_at array k → RootLaw → PartsLaw → ItemsLaw → TopLaw → FlatLaw
    → CanNest column (typed_of t) array → KidIs t kid array child k
kid-here t kid array child column k level own ok lt is child_is roots parts items tops flats can =
    let here : child_at (typed_of t) k ≡ typed_of kid =
    ap (λ (ks : List KindTree). get_or ks k Released) (kids-are t level) ∙ kid-is t kid k lt is in
    let kid_ok = kid-ok t kid k level ok lt is in
    let many = ap length (kids-are t level) in
    let flat = flat-kid roots parts items tops flats column (typed_of t) array (level-live t level) can k (omega (arith, many, lt)) (subst TypedOk (sym here) kid_ok) in
    let kind = ap kind_in here ∙ ap kind_in own in
    let form = subst (λ (d : DataType). HasForm (form_of d)) kind flat.form in
    let typed = sym here ∙ flat.type ∙ ap (λ (d : DataType). type_of_kind (Flat d)) kind in
    record {
      ok = kid_ok;
      same = here;
      is_child = child_is;
      flat = flat;
      kind = kind;
      typed = typed;
      form = form;
      inner = ap kind_in own;
      lawful = subst (LayoutOk (typed_of kid)) (sym child_is) (subst (λ (u : KindTree). LayoutOk u (child_at array k)) here flat.lawful);
    }

many-keys : (column : ℕ) (typed : KindTree) (array : ArrayTree) → length (row_keys column typed array) ≡ tree_items array
many-keys column typed array =
    length-map (rows_of typed array) (λ (row : List Value). get_or row column Null) ∙ length-each (row_items typed array) 0 (tree_items array)

module _ (t kid : Typed) (array child : ArrayTree) (k : ℕ) (is : KidIs t kid array child k) where
  -- the child's own type and tree
  own-values : (start : ℕ) (kept : List ℕ)
      → values_at (type_of_kind (Flat (kind_of kid))) child start kept ≡ values_at (child_at (typed_of t) k) (child_at array k) start kept
  own-values start kept = λ j. values_at ((sym is.typed ∙ sym is.same) j) (is.is_child j) start kept

  kid-kind : kind_of kid ≡ kind_at (map kind_in (children_of (typed_of t))) k
  kid-kind = sym is.kind ∙ sym is.flat.kind

  kid-long : first (members_of array) + tree_items array ≤ tree_items child
  kid-long = omega (arith, is.flat.long, ap tree_items is.is_child)

  pub has-items : (column : ℕ) → HasItems (kind_of kid) child (first (members_of array)) (row_keys column (typed_of t) array)
  has-items column = record {
    ok = subst (λ (u : KindTree). LayoutOk u child) is.typed is.lawful;
    long = omega (arith, many-keys column (typed_of t) array, kid-long);
  }

  pub few-keys : (column : ℕ) → tree_items array < 2147483648 → length (row_keys column (typed_of t) array) < 2147483648
  few-keys column few = omega (arith, many-keys column (typed_of t) array, few)

  -- ---- the column by which rows are grouped

  pub can-first : (kept : List ℕ) → OnceLaw (typed_of kid) child → AreFirsts k (typed_of t) array kept
      → CanGather (kind_of kid) child (first (members_of array)) kept
  can-first kept once firsts =
      can-pick (typed_of kid) child once (kind_of kid) (first (members_of array)) (tree_items array) kept is.typed is.form
      (subst (λ (u : KindTree). LayoutOk u child) is.typed is.lawful) firsts.inside kid-long firsts.apart

  first-values : (kept : List ℕ) → AreFirsts k (typed_of t) array kept
      → values_at (type_of_kind (Flat (kind_of kid))) child (first (members_of array)) kept ≡ keys_of k (rows_of (typed_of t) array)
  first-values kept firsts = own-values (first (members_of array)) kept ∙ firsts.keys

  pub key-fit : (kept : List ℕ) → OnceLaw (typed_of kid) child → AreFirsts k (typed_of t) array kept
      → FitColumn k (map kind_in (children_of (typed_of t))) (rows_of (typed_of t) array) k
  key-fit kept once firsts = record {
    keys = λ e. subst (λ (d : DataType). Fits d (keys_of k (rows_of (typed_of t) array))) kid-kind
        (subst (Fits (kind_of kid)) (first-values kept firsts)
        (once-fit (typed_of kid) child once (kind_of kid) (first (members_of array)) (tree_items array) kept is.typed is.form firsts.inside kid-long
        firsts.apart));
    lists = λ other. absurd (other refl);
  }

  pub key-column : (kept : List ℕ) → AreFirsts k (typed_of t) array kept
      → column_tree (kind_of kid) (values_at (type_of_kind (Flat (kind_of kid))) child (first (members_of array)) kept) None
      ≡ nested_column k (map kind_in (children_of (typed_of t))) (rows_of (typed_of t) array) k
  key-column kept firsts =
      let types = map kind_in (children_of (typed_of t)) in
      let rows = rows_of (typed_of t) array in
      (λ j. column_tree (kid-kind j) (first-values kept firsts j) None)
      ∙ sym (ap (λ (b : Bool). if b then column_tree (kind_at types k) (keys_of k rows) None else list_tree (kind_at types k) (lists_of k rows k)) (eq-eqb k k refl))

  -- ---- another column

  own-lists : (column : ℕ)
      → grouped_lists (type_of_kind (Flat (kind_of kid))) child (first (members_of array)) (row_keys column (typed_of t) array)
      ≡ lists_of column (rows_of (typed_of t) array) k
  own-lists column =
      (λ j. grouped_lists ((sym is.typed ∙ sym is.same) j) (is.is_child j) (first (members_of array)) (row_keys column (typed_of t) array))
      ∙ sym (kid-lists (typed_of t) array k is.flat column)

  pub list-fit : (column : ℕ) (groups : Groups) → OnceLaw (typed_of kid) child → AreRowGroups column (typed_of t) array groups → k ≢ column
      → FitColumn column (map kind_in (children_of (typed_of t))) (rows_of (typed_of t) array) k
  list-fit column groups once are other =
      let vs = row_keys column (typed_of t) array in
      let order = groups.order.items in
      let fits = once-fit (typed_of kid) child once (kind_of kid) (first (members_of array)) (length vs) order is.typed is.form are.are.inside
      (has-items column).long are.are.apart in
      let all = sym (ap length are.are.order) ∙ are.are.all in
      let lists = lists-fit (kind_of kid) (type_of_kind (Flat (kind_of kid))) child (first (members_of array)) vs
      (subst (λ (o : List ℕ). Fits (kind_of kid) (values_at (type_of_kind (Flat (kind_of kid))) child (first (members_of array)) o)) are.are.order fits) all
      (few-keys column are.few) in
      record {
        keys = λ e. absurd (other e);
        lists = λ _. subst (λ (d : DataType). FitLists d (lists_of column (rows_of (typed_of t) array) k)) kid-kind
            (subst (FitLists (kind_of kid)) (own-lists column) lists);
      }

  pub list-column : (column : ℕ) → k ≢ column
      → list_tree (kind_of kid) (grouped_lists (type_of_kind (Flat (kind_of kid))) child (first (members_of array)) (row_keys column (typed_of t) array))
      ≡ nested_column column (map kind_in (children_of (typed_of t))) (rows_of (typed_of t) array) k
  list-column column other =
      let types = map kind_in (children_of (typed_of t)) in
      let rows = rows_of (typed_of t) array in
      (λ j. list_tree (kid-kind j) (own-lists column j))
      ∙ sym (ap (λ (b : Bool). if b then column_tree (kind_at types k) (keys_of column rows) None else list_tree (kind_at types k) (lists_of column rows k))
      (ne_eqb k column other))

  -- ---- of the only column

  -- by the kind that its own tree names
  pub kid-typed : typed_of kid ≡ type_of_kind (Flat (kind_in (typed_of kid)))
  kid-typed = is.typed ∙ ap (λ (d : DataType). type_of_kind (Flat d)) (sym is.inner)

  pub kid-form : HasForm (form_of (kind_in (typed_of kid)))
  kid-form = subst (λ (d : DataType). HasForm (form_of d)) (sym is.inner) is.form

  pub kid-reach : (start count : ℕ) → start ≡ first (members_of array) → count ≡ tree_items array → start + count ≤ tree_items child
  kid-reach start count place many = omega (arith, kid-long, place, many)

  -- the values by which rows are grouped are the items of the column
  pub keys-are : (start count : ℕ) → start ≡ first (members_of array) → count ≡ tree_items array
      → items_from (typed_of kid) child start count ≡ row_keys k (typed_of t) array
  keys-are start count place many =
      (λ j. items_from (sym is.same j) (is.is_child j) (place j) (many j)) ∙ sym (kid-values (typed_of t) array k is.flat)

  pub are-firsts : (start count : ℕ) (kept : List ℕ) → start ≡ first (members_of array) → count ≡ tree_items array
      → map (λ i. value_at (typed_of kid) child (start + i)) kept ≡ distinct (items_from (typed_of kid) child start count)
      → All (λ i. i < count) kept → AreApart kept → AreFirsts k (typed_of t) array kept
  are-firsts start count kept place many values inside apart = record {
    keys = (λ j. values_at (is.same j) (sym is.is_child j) (sym place j) kept) ∙ values ∙ ap distinct (keys-are start count place many);
    inside = subst (λ n. All (λ i. i < n) kept) many inside;
    apart = apart;
  }

  pub are-groups : (start count : ℕ) (groups : Groups) → start ≡ first (members_of array) → count ≡ tree_items array
      → groups.firsts.items ≡ firsts_of (items_from (typed_of kid) child start count)
      → groups.order.items ≡ order_of (items_from (typed_of kid) child start count)
      → groups.offsets.items ≡ offsets_of (items_from (typed_of kid) child start count)
      → All (λ i. i < count) groups.order.items → AreApart groups.order.items → length groups.order.items ≡ count
      → AreGroups groups (row_keys k (typed_of t) array)
  are-groups start count groups place many firsts order offsets inside apart all =
      let same = keys-are start count place many in
      let size = many-keys k (typed_of t) array in
      record {
        firsts = ap length (firsts ∙ ap firsts_of same)
            ∙ length-map (distinct (row_keys k (typed_of t) array)) (λ (key : Value). position_or_len (same_as key) (row_keys k (typed_of t) array));
        order = order ∙ ap order_of same;
        offsets = offsets ∙ ap offsets_of same;
        inside = subst (λ n. All (λ i. i < n) groups.order.items) (many ∙ sym size) inside;
        apart = apart;
        all = all ∙ many ∙ sym size;
      }

  -- each of them once
  pub can-runs : (kept : List ℕ) (start : ℕ) → start ≡ first (members_of array) → OnceLaw (typed_of kid) child → AreFirsts k (typed_of t) array kept
      → CanGatherRuns (kind_of kid) child (map (run_at start) kept)
  can-runs kept start place once firsts =
      let can = subst (λ n. CanGather (kind_of kid) child n kept) (sym place) (can-first kept once firsts) in
      record {
        ok = can.ok;
        inside = All-map (λ (run : Run). run.item < tree_items child) (run_at start) kept can.inside;
        items = subst (Fits (kind_of kid)) (sym (runs-values (type_of_kind (Flat (kind_of kid))) child start kept)) can.items;
      }

  pub near-firsts : (kept : List ℕ) (start : ℕ) → start ≡ first (members_of array) → AreFirsts k (typed_of t) array kept
      → All (λ i. start + i < 2 ^ 40) kept
  near-firsts kept start place firsts =
      All-weaker (λ (i : ℕ). i < tree_items array) (λ (i : ℕ). start + i < 2 ^ 40) (λ i lt. omega (arith, lt, place, is.flat.near)) kept firsts.inside

-- ---- of all numbers below the next one

below-other : (j k : ℕ) → j < k + 1 → (j ≡ k → ⊥) → j < k
below-other j k lt other = not-above (nat_lt j k) refl
  where
    not-above : (b : Bool) → nat_lt j k ≡ b → j < k
    not-above true e = ltb-true j k e
    not-above false e = absurd (other (omega (arith, lt, ltb-false j k e)))

pub fits-next : (P : ℕ → Type 0) (k : ℕ) → ((j : ℕ) → j < k → P j) → P k → (j : ℕ) → j < k + 1 → P j
fits-next P k few own j lt = go (j == k) refl
  where
    go : (b : Bool) → (j == k) ≡ b → P j
    go true e = subst P (sym (eqb-true j k e)) own
    go false e = few j (below-other j k lt (eqb-false j k e))
