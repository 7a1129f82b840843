-- The table of grouped rows is a chunk, and has these rows.
use Rattle.std.proofs.Common.{◌≡◌, ◌∙◌, ℕ, zero, suc, ◌+◌, ◌<◌, ◌≤◌, Bool, true, false, List, [], ◌∷◌, All, length, map, get_or, None, refl, sym, ap, subst, arith}
use Rattle.std.proofs.lemmas.Bool.{eqb-false, eqb-true}
use Rattle.std.proofs.lemmas.List.{get_or-map, length-map, map-id}
use Rattle.std.specs.Prelude.{if◌then◌else◌, ◌==◌}
use Rattle.data_types.specs.declared.kind.DataType.{DataType}
use Rattle.data_types.specs.promise.Parts.{column_values}
use Rattle.data_types.specs.promise.Table.{Row}
use Rattle.data_types.specs.promise.Value.{Value, Null, Items, values}
use Rattle.tree_model.specs.promise.TreeParts.{IsLive}
use Rattle.raw_array.specs.promise.Members.{ArrayTree}
use Rattle.col_build.specs.Encoding.{Fits}
use Rattle.data_types.specs.promise.KindTrees.{KindTree}
use Rattle.layout_rules.specs.promise.Values.{each, rows_of, tree_items, values_of}
use Rattle.layout_rules.specs.promise.Walk.{ChunkOk, LayoutOk}
use Rattle.arr_export.specs.promise.ArrayTrees.{column_tree}
use Rattle.arr_export.specs.ArrayTrees.{AreLawful, HaveValues, flat_type, rows_of_values}
use Rattle.arr_export.proofs.ColumnLaw.{column-lawful, column-values}
use Rattle.arr_export.proofs.Each.{each-is, each-same}
use Rattle.arr_export.proofs.TableLaw.{table-chunk, table-values}
use Rattle.list_cols.specs.promise.ListTrees.{list_tree}
use Rattle.list_cols.specs.ListTrees.{FitLists, list_kind, list_value}
use Rattle.list_cols.specs.promise.Nested.{Nest, nested_value, rows_with}
use Rattle.list_cols.specs.promise.NestedTables.{keys_of, lists_of, nested_column, nested_table}
use Rattle.list_cols.specs.NestedTables.{FitNested, kind_at, nested_kind, nested_table_type}
use Rattle.list_cols.proofs.ListTreeLaw.{list-lawful, list-values}

pub map-each : {X Y : Type 0} → (f : X → Y) (g : ℕ → X) (a n : ℕ) → map f (each g a n) ≡ each (λ i. f (g i)) a n
map-each f g a zero = refl
map-each f g a (suc n) = ap (λ ys. f (g a) ∷ ys) (map-each f g (suc a) n)

map-both : {X Y Z : Type 0} → (f : Y → Z) (g : X → Y) (xs : List X) → map f (map g xs) ≡ map (λ x. f (g x)) xs
map-both f g [] = refl
map-both f g (x ∷ xs) = ap (λ zs. f (g x) ∷ zs) (map-both f g xs)

pub all-each : {X : Type 0} → (P : X → Type 0) (f : ℕ → X) (a n : ℕ) → ((i : ℕ) → i < n → P (f (a + i))) → All P (each f a n)
all-each P f a zero at k d lt = absurd (omega (arith, lt))
all-each P f a (suc n) at zero d lt = let start : a + 0 ≡ a = omega arith in subst (λ i. P (f i)) start (at 0 (omega arith))
all-each P f a (suc n) at (suc k) d lt =
    all-each P f (suc a) n (λ i small. let place : a + suc i ≡ suc a + i = omega arith in
    subst (λ j. P (f j)) place (at (suc i) (omega (arith, small)))) k d (omega (arith, lt))

-- ---- columns by their numbers

lawful-each : (types : ℕ → KindTree) (columns : ℕ → ArrayTree) (a n : ℕ)
    → ((i : ℕ) → i < n → IsLive (types (a + i)) × LayoutOk (types (a + i)) (columns (a + i))) → AreLawful (each types a n) (each columns a n)
lawful-each types columns a zero at = tt
lawful-each types columns a (suc n) at =
    let start : a + 0 ≡ a = omega arith in
    let here = subst (λ i. IsLive (types i) × LayoutOk (types i) (columns i)) start (at 0 (omega arith)) in (
      here.0,
      here.1,
      lawful-each types columns (suc a) n (λ i small.
          let place : a + suc i ≡ suc a + i = omega arith in
          subst (λ j. IsLive (types j) × LayoutOk (types j) (columns j)) place (at (suc i) (omega (arith, small)))),
    )

values-each : (types : ℕ → KindTree) (columns : ℕ → ArrayTree) (vs : ℕ → List Value) (a n : ℕ)
    → ((i : ℕ) → i < n → values_of (types (a + i)) (columns (a + i)) ≡ vs (a + i)) → HaveValues (each types a n) (each columns a n) (each vs a n)
values-each types columns vs a zero at = tt
values-each types columns vs a (suc n) at =
    let start : a + 0 ≡ a = omega arith in (
      subst (λ i. values_of (types i) (columns i) ≡ vs i) start (at 0 (omega arith)),
      values-each types columns vs (suc a) n (λ i small.
          let place : a + suc i ≡ suc a + i = omega arith in
          subst (λ j. values_of (types j) (columns j) ≡ vs j) place (at (suc i) (omega (arith, small)))),
    )

-- ---- a column

live-if : (b : Bool) (kind : DataType) → IsLive (if b then flat_type kind None else list_kind kind)
live-if true kind = tt
live-if false kind = tt

lawful-if : (b : Bool) (kind : DataType) (keys : List Value) (lists : List (List Value)) → (b ≡ true → Fits kind keys) → (b ≡ false → FitLists kind lists)
    → LayoutOk (if b then flat_type kind None else list_kind kind) (if b then column_tree kind keys None else list_tree kind lists)
lawful-if true kind keys lists own other = column-lawful kind keys (own refl)
lawful-if false kind keys lists own other = list-lawful kind lists (other refl)

values-if : (b : Bool) (kind : DataType) (keys : List Value) (list : Value → List Value) → (b ≡ true → Fits kind keys) → (b ≡ false → FitLists kind (map list keys))
    → values_of (if b then flat_type kind None else list_kind kind) (if b then column_tree kind keys None else list_tree kind (map list keys))
    ≡ map (λ key. if b then key else Items (values (list key))) keys
values-if true kind keys list own other = column-values kind keys (own refl) ∙ sym (map-id keys)
values-if false kind keys list own other = list-values kind (map list keys) (other refl) ∙ map-both list_value list keys

items-if : (b : Bool) (kind : DataType) (keys : List Value) (list : Value → List Value)
    → tree_items (if b then column_tree kind keys None else list_tree kind (map list keys)) ≡ length keys
items-if true kind keys list = refl
items-if false kind keys list = length-map keys list

-- ---- the table

module _ (column : ℕ) (types : List DataType) (rows : List Row) where
  abbrev keys : List Value
  keys = keys_of column rows

  abbrev list : ℕ → Value → List Value
  list k key = column_values k (rows_with column key rows)

  abbrev columns : List ArrayTree
  columns = each (nested_column column types rows) 0 (length types)

  column-items : (k : ℕ) → tree_items (nested_column column types rows k) ≡ length keys
  column-items k = items-if (k == column) (kind_at types k) keys (list k)

  pub nested-length : (k : ℕ) → length keys ≤ tree_items (nested_column column types rows k)
  nested-length k = omega (arith, column-items k)

  pub nested-live : (k : ℕ) → IsLive (nested_column column types rows k)
  nested-live k = live (k == column)
    where
      live : (b : Bool) → IsLive (if b then column_tree (kind_at types k) keys None else list_tree (kind_at types k) (lists_of column rows k))
      live true = tt
      live false = tt

  abbrev row-values : ℕ → List Value
  row-values k = map (λ key. nested_value column key rows k) keys

  rows-are : rows_of_values (each row-values 0 (length types)) (length keys) ≡ Nest (length types) column rows
  rows-are =
      let row = λ (key : Value). each (nested_value column key rows) 0 (length types) in
      let read = λ (i : ℕ). map (λ (vs : List Value). get_or vs i Null) (each row-values 0 (length types)) in
      let many = length-map keys row in
      ap (each read 0) (sym many)
      ∙ each-is read (map row keys) 0 (row Null) (λ i lt.
      let place : 0 + i ≡ i = omega arith in
      let small : i < length keys = omega (arith, many, lt) in
      ap read place ∙ map-each (λ (vs : List Value). get_or vs i Null) row-values 0 (length types)
      ∙ each-same (λ k. get_or (row-values k) i Null) (nested_value column (get_or keys i Null) rows) 0 (length types) (λ k few.
      get_or-map (λ key. nested_value column key rows (0 + k)) keys i Null Null small)
      ∙ sym (get_or-map row keys i Null (row Null) small))

  module _ (fit : FitNested column types rows) where
    own-fit : (k : ℕ) → k < length types → (k == column) ≡ true → Fits (kind_at types k) keys
    own-fit k lt e = (fit.columns k lt).keys (eqb-true k column e)

    other-fit : (k : ℕ) → k < length types → (k == column) ≡ false → FitLists (kind_at types k) (lists_of column rows k)
    other-fit k lt e = (fit.columns k lt).lists (λ same. eqb-false k column e same)

    lawful-at : (k : ℕ) → k < length types → IsLive (nested_kind column types k) × LayoutOk (nested_kind column types k) (nested_column column types rows k)
    lawful-at k lt = (
      live-if (k == column) (kind_at types k),
      lawful-if (k == column) (kind_at types k) keys (lists_of column rows k) (own-fit k lt) (other-fit k lt),
    )

    values-at : (k : ℕ) → k < length types → values_of (nested_kind column types k) (nested_column column types rows k) ≡ row-values k
    values-at k lt = values-if (k == column) (kind_at types k) keys (list k) (own-fit k lt) (other-fit k lt)

    pub nested-chunk : ChunkOk (nested_table_type column types) (nested_table column types rows)
    nested-chunk =
        table-chunk (each (nested_kind column types) 0 (length types)) columns (length keys)
        (lawful-each (nested_kind column types) (nested_column column types rows) 0 (length types) (λ i lt. lawful-at (0 + i) (omega (arith, lt))))
        (all-each (λ (tree : ArrayTree). length keys ≤ tree_items tree) (nested_column column types rows) 0 (length types) (λ i lt. nested-length (0 + i)))
        fit.few

    pub nested-rows : rows_of (nested_table_type column types) (nested_table column types rows) ≡ Nest (length types) column rows
    nested-rows =
        table-values (each (nested_kind column types) 0 (length types)) columns (each row-values 0 (length types)) (length keys)
        (values-each (nested_kind column types) (nested_column column types rows) row-values 0 (length types) (λ i lt. values-at (0 + i) (omega (arith, lt))))
        (all-each (λ (vs : List Value). length keys ≤ length vs) row-values 0 (length types) (λ i lt.
        omega (arith, length-map keys (λ key. nested_value column key rows (0 + i)))))
        ∙ rows-are
