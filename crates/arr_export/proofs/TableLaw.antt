-- A struct of lawful columns is a chunk, and its rows are the first items of the columns.
use Rattle.std.proofs.Common.{◌≡◌, ◌∙◌, ℕ, zero, suc, ◌+◌, ◌^◌, ◌<◌, ◌≤◌, ℤ, pos, negsuc, not, List, [], ◌∷◌, ◌++◌, length, map, get_or, refl, sym, ap, arith}
use Rattle.std.proofs.Common.{Option, None, Some}
use Rattle.std.specs.Prelude.{if◌then◌else◌, int_lt, nat_lt, ◌==◌, ◌&&◌}
use Rattle.std.specs.Ordering.{int_eq}
use Rattle.std.specs.List.{All}
use Rattle.std.proofs.lemmas.Bool.{eq-eqb, le-ltb}
use Rattle.std.proofs.lemmas.List.Elements.{All-head, All-tail}
use Rattle.tree_model.specs.promise.TreeParts.{IsLive}
use Rattle.tree_model.specs.promise.TreeData.{Released, Live, absent, trees, tree_list}
use Rattle.tree_model.proofs.Lists.{tree_list-trees}
use Rattle.raw_array.specs.promise.Members.{ArrayTree}
use Rattle.data_types.specs.promise.Value.{Value, Null}
use Rattle.data_types.specs.declared.kind.DataType.TheVariants as kinds
use Rattle.data_types.specs.promise.KindTrees.{KindTree}
use Rattle.layout_rules.specs.promise.Layout.{natural}
use Rattle.layout_rules.specs.promise.Rules.{Node, child_short, fault_if, in_order, is_negative, live_length, null_total, short_child}
use Rattle.layout_rules.specs.promise.Values.{field_items, readers, row_items, rows_of, tree_items, value_at}
use Rattle.data_types.specs.promise.Ways.{Steps}
use Rattle.layout_rules.specs.promise.Walk.{ChunkOk, LayoutOk, fault_at, first_some, node_fault, node_of, top_fault, visit_fault, visits, walk_below}
use Rattle.layout_rules.specs.promise.Walk.{walk_children, walk_of, walks_of}
use Rattle.layout_rules.specs.declared.rule.LayoutRule.TheVariants as rules
use Rattle.layout_rules.specs.declared.rule.Numbers.{Numbers}
use Rattle.layout_rules.proofs.Lawful.{first_fault-lawful, lawful-first_fault, left-none}
use Rattle.layout_rules.proofs.NamedRules.{AreMet, none-fails}
use Rattle.data_types.specs.ColumnKinds.{table_type}
use Rattle.arr_export.specs.promise.ArrayTrees.{table_tree}
use Rattle.arr_export.specs.ArrayTrees.{table_members, AreLawful, HaveValues, rows_of_columns, rows_of_values}
use Rattle.arr_export.proofs.Each.{each-same, length-each, value-there}
use Rattle.arr_export.proofs.NodeRules.{both-none, no-fault}
use Rattle.arr_export.proofs.Steady.{first_some-append, steady}

-- ---- a child is long enough

long-by : (found : ℤ) (needed k : ℕ) → fault_if (is_negative found) 0 found (pos 0) ≡ None → needed ≤ natural found → short_child needed k (Some found) ≡ None
long-by (pos n) needed k e le = no-fault (int_lt (pos n) (pos needed)) k (pos n) (pos needed) (le-ltb n needed le)
long-by (negsuc n) needed k e le = cc

no-rule : (path : Steps) (found : Option Numbers) → fault_at path rules.NegativeLength found ≡ None → found ≡ None
no-rule path None e = refl
no-rule path (Some numbers) e = cc

-- the length of a lawful array isn't negative
pub long-enough : (type : KindTree) (column : ArrayTree) (needed k : ℕ) → IsLive type → LayoutOk type column → needed ≤ tree_items column
    → short_child needed k (live_length column) ≡ None
long-enough Released column needed k live lawful le = absurd live
long-enough (Live kind kids dict) Released needed k live lawful le = refl
long-enough (Live kind kids dict) (Live own children dictionary) needed k live lawful le =
    let all = lawful-first_fault (Live kind kids dict) (Live own children dictionary) lawful in
    let here =
    left-none (node_fault [] (node_of kind kids dict (Live own children dictionary)))
    (first_some visit_fault (walk_below (walks_of kids) (walk_of dict) [] (Live own children dictionary))) all in
    let length_rule : fault_at [] rules.NegativeLength (fault_if (is_negative own.length) 0 own.length (pos 0)) ≡ None = left-none _ _ here in
    long-by own.length needed k (no-rule [] (fault_if (is_negative own.length) 0 own.length (pos 0)) length_rule) le

all-long : (types : List KindTree) (columns : List ArrayTree) (needed k : ℕ) → AreLawful types columns → All (λ column. needed ≤ tree_items column) columns
    → child_short needed k columns ≡ None
all-long [] [] needed k are long = refl
all-long [] (column ∷ columns) needed k are long = absurd are
all-long (type ∷ types) [] needed k are long = absurd are
all-long (type ∷ types) (column ∷ columns) needed k are long =
    both-none (short_child needed k (live_length column)) (child_short needed (suc k) columns)
    (long-enough type column needed k are.0 are.1 (All-head (λ c. needed ≤ tree_items c) column columns long))
    (all-long types columns needed (suc k) are.2 (All-tail (λ c. needed ≤ tree_items c) column columns long))

same-number : (types : List KindTree) (columns : List ArrayTree) → AreLawful types columns → length columns ≡ length types
same-number [] [] are = refl
same-number [] (column ∷ columns) are = absurd are
same-number (type ∷ types) [] are = absurd are
same-number (type ∷ types) (column ∷ columns) are = ap suc (same-number types columns are.2)

-- ---- no row is null

no-nulls : (rows n : ℕ) → null_total (table_members rows) n ≡ 0
no-nulls rows zero = refl
no-nulls rows (suc n) = omega (arith, no-nulls rows n)

null-count : (n : ℕ) → n ≡ 0 → fault_if (not (int_eq (pos 0) (negsuc 0)) && not (int_eq (pos 0) (pos n))) 0 (pos 0) (pos n) ≡ None
null-count n e = ap (λ (m : ℕ). fault_if (not (int_eq (pos 0) (negsuc 0)) && not (int_eq (pos 0) (pos m))) 0 (pos 0) (pos m)) e

-- ---- the node of a table, and what is below it

module _ (types : List KindTree) (columns : List ArrayTree) (rows : ℕ) (are : AreLawful types columns) (long : All (λ column. rows ≤ tree_items column) columns)
    (few : rows ≤ 2 ^ 40) where
  abbrev root : Node
  root = record {
    kind = kinds.Struct;
    kids = tree_list (trees types);
    dict = None;
    own = table_members rows;
    children = tree_list (trees columns);
    dictionary = None;
  }

  met : AreMet root
  met rules.ChildCount =
      no-fault (not (length (tree_list (trees columns)) == length (tree_list (trees types)))) 0 (pos (length (tree_list (trees columns))))
      (pos (length (tree_list (trees types))))
      (ap not (eq-eqb _ _ (ap length (tree_list-trees columns) ∙ same-number types columns are ∙ sym (ap length (tree_list-trees types)))))
  met rules.ChildShort =
      let start : 0 + rows ≡ rows = omega arith in
      ap (λ (n : ℕ). child_short n 0 (tree_list (trees columns))) start
      ∙ ap (child_short rows 0) (tree_list-trees columns) ∙ all-long types columns rows 0 are long
  met rules.NullCount = null-count (null_total (table_members rows) rows) (no-nulls rows rows)
  met rules.WindowTooLong = no-fault (nat_lt (2 ^ 40) (0 + rows)) 0 (pos (0 + rows)) (pos (2 ^ 40)) (le-ltb (2 ^ 40) (0 + rows) (omega (arith, few)))
  met _ = refl

  node-passes : (path : Steps) → node_fault path (node_of kinds.Struct (trees types) absent (table_tree rows columns)) ≡ None
  node-passes path = none-fails path root in_order met

children-pass : (types : List KindTree) (columns : List ArrayTree) → AreLawful types columns → (k : ℕ) (path : Steps)
    → first_some visit_fault (walk_children (walks_of (trees types)) k path (tree_list (trees columns))) ≡ None
children-pass [] [] are k path = refl
children-pass [] (column ∷ columns) are k path = absurd are
children-pass (type ∷ types) [] are k path = absurd are
children-pass (type ∷ types) (column ∷ columns) are k path =
    first_some-append visit_fault (visits type (path ++ k ∷ []) column) (walk_children (walks_of (trees types)) (suc k) path (tree_list (trees columns)))
    (steady type [] (path ++ k ∷ []) column (lawful-first_fault type column are.1))
    (children-pass types columns are.2 (suc k) path)

pub table-chunk : (types : List KindTree) (columns : List ArrayTree) (rows : ℕ) → AreLawful types columns → All (λ column. rows ≤ tree_items column) columns
    → rows ≤ 2 ^ 40 → ChunkOk (table_type types) (table_tree rows columns)
table-chunk types columns rows are long few = (
  first_fault-lawful (table_type types) (table_tree rows columns)
      (both-none (node_fault [] (node_of kinds.Struct (trees types) absent (table_tree rows columns)))
      (first_some visit_fault (walk_children (walks_of (trees types)) 0 [] (tree_list (trees columns)) ++ []))
      (node-passes types columns rows are long few [])
      (first_some-append visit_fault (walk_children (walks_of (trees types)) 0 [] (tree_list (trees columns))) [] (children-pass types columns are 0 []) refl)),
  top,
)
  where
    top : top_fault (table_type types) (table_tree rows columns) ≡ None
    top = ap (λ (n : ℕ). if nat_lt 0 n then Some (record { path = []; rule = rules.TopNulls; numbers = record { place = 0; left = pos n; right = pos 0 } })
        else None) (no-nulls rows rows)

-- ---- the rows

readers-are : (types : List KindTree) → readers (trees types) ≡ map value_at types
readers-are [] = refl
readers-are (type ∷ types) = ap (λ others. value_at type ∷ others) (readers-are types)

pub table-rows : (types : List KindTree) (columns : List ArrayTree) (rows : ℕ)
    → rows_of (table_type types) (table_tree rows columns) ≡ rows_of_columns types columns rows
table-rows types columns rows =
    each-same (row_items (table_type types) (table_tree rows columns)) (field_items (map value_at types) columns) 0 rows (λ i lt.
    let place : 0 + (0 + i) ≡ 0 + i = omega arith in
    ap (field_items (readers (trees types)) (tree_list (trees columns))) place
    ∙ ap (λ rs. field_items rs (tree_list (trees columns)) (0 + i)) (readers-are types)
    ∙ ap (λ cs. field_items (map value_at types) cs (0 + i)) (tree_list-trees columns))

row-is : (types : List KindTree) (columns : List ArrayTree) (values : List (List Value)) (rows i : ℕ) → HaveValues types columns values
    → All (λ items. rows ≤ length items) values → i < rows
    → field_items (map value_at types) columns i ≡ map (λ items. get_or items i Null) values
row-is [] [] [] rows i have long lt = refl
row-is [] [] (items ∷ values) rows i have long lt = absurd have
row-is [] (column ∷ columns) values rows i have long lt = absurd have
row-is (type ∷ types) [] values rows i have long lt = absurd have
row-is (type ∷ types) (column ∷ columns) [] rows i have long lt = absurd have
row-is (type ∷ types) (column ∷ columns) (items ∷ values) rows i have long lt =
    let enough = All-head (λ (vs : List Value). rows ≤ length vs) items values long in
    let count : tree_items column ≡ length items = sym (length-each (value_at type column) 0 (tree_items column)) ∙ ap length have.0 in
    let start : i ≡ 0 + i = omega arith in
    let here : value_at type column i ≡ get_or items i Null =
    ap (value_at type column) start ∙ sym (value-there (value_at type column) 0 (tree_items column) i Null (omega (arith, count, enough)))
    ∙ ap (λ (vs : List Value). get_or vs i Null) have.0 in
    ap (λ v. v ∷ field_items (map value_at types) columns i) here
    ∙ ap (λ vs. get_or items i Null ∷ vs) (row-is types columns values rows i have.1 (All-tail (λ (vs : List Value). rows ≤ length vs) items values long) lt)

pub table-values : (types : List KindTree) (columns : List ArrayTree) (values : List (List Value)) (rows : ℕ) → HaveValues types columns values
    → All (λ items. rows ≤ length items) values
    → rows_of (table_type types) (table_tree rows columns) ≡ rows_of_values values rows
table-values types columns values rows have long =
    table-rows types columns rows
    ∙ each-same (field_items (map value_at types) columns) (λ i. map (λ items. get_or items i Null) values) 0 rows (λ i lt.
    row-is types columns values rows (0 + i) have long (omega (arith, lt)))
