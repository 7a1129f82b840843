-- A struct of lawful columns that are long enough, none of whose items is null, is a chunk.
use Rattle.std.proofs.Common.{◌≡◌, ◌∙◌, ℕ, zero, suc, ◌+◌, ◌^◌, ◌≤◌, ℤ, pos, negsuc, not, ◌&&◌, List, [], ◌∷◌, ◌++◌, length, map, Option, None, Some, refl, ap}
use Rattle.std.proofs.Common.{sym, arith}
use Rattle.std.specs.Prelude.{if◌then◌else◌, int_lt, nat_lt, ◌==◌}
use Rattle.std.specs.Ordering.{int_eq}
use Rattle.std.specs.List.{All}
use Rattle.std.proofs.lemmas.Bool.{eq-eqb, le-ltb}
use Rattle.std.proofs.lemmas.List.Elements.{All-head, All-tail}
use Rattle.data_types.specs.promise.Table.{Row}
use Rattle.data_types.specs.declared.kind.DataType.TheVariants as kinds
use Rattle.tree_model.specs.promise.TreeParts.{IsLive}
use Rattle.tree_model.specs.promise.TreeData.{Released, Live, absent, trees, tree_list}
use Rattle.tree_model.proofs.Lists.{tree_list-trees}
use Rattle.raw_array.specs.promise.Members.{ArrayMembers, ArrayTree}
use Rattle.raw_array.specs.declared.array.ReleaseKind.TheVariants.{Assembled}
use Rattle.data_types.specs.promise.KindTrees.{KindTree}
use Rattle.layout_rules.specs.promise.Layout.{natural}
use Rattle.layout_rules.specs.promise.Rules.{child_short, count_wrong, fault_if, live_length, null_total, short_child}
use Rattle.layout_rules.specs.promise.Values.{each, field_items, readers, row_items, rows_of, tree_items, value_at}
use Rattle.data_types.specs.promise.Ways.{Steps}
use Rattle.layout_rules.specs.promise.Walk.{ChunkOk, LayoutOk, first_some, node_fault, root_fault, top_fault, visit_fault, visits, walk_children, walks_of}
use Rattle.layout_rules.specs.declared.rule.LayoutRule.TheVariants as rules
use Rattle.layout_rules.proofs.Walks.{first_some-append}
use Rattle.layout_rules.proofs.Lawful.{first_fault-lawful, lawful-first_fault}
use Rattle.layout_rules.proofs.ReadWithin.{any-path, live-of}
use Rattle.data_types.specs.ColumnKinds.{table_type}
use Rattle.layout_rules.specs.promise.Rules.{in_order}
use Rattle.layout_rules.proofs.NamedRules.{AreMet, none-fails}
use Rattle.array_laws.proofs.NodeParts.{both-none, no-fault}
use Rattle.array_laws.proofs.WindowItems.{each-same}
use Rattle.array_laws.proofs.LawfulNodes.{length-items, node}

-- there is a lawful column for each type, and no type is released
abbrev pub AreLawful : List KindTree → List ArrayTree → Type 0
AreLawful [] [] = Unit {0}
AreLawful (type ∷ types) (column ∷ columns) = IsLive type × LayoutOk type column × AreLawful types columns
AreLawful _ _ = ⊥

abbrev pub row_members : ℕ → ArrayMembers
row_members rows = record { length = pos rows; null_count = pos 0; offset = pos 0; buffers = None ∷ []; kind = Assembled }

-- a struct of these columns, of which the first items are its items
abbrev pub struct_tree : ℕ → List ArrayTree → ArrayTree
struct_tree rows columns = Live (row_members rows) (trees columns) absent

-- ---- its children are long enough

long-enough : (z : ℤ) (needed k : ℕ) → z ≡ pos (natural z) → needed ≤ natural z → short_child needed k (Some z) ≡ None
long-enough z needed k e le =
    ap (λ found. fault_if (int_lt found (pos needed)) k found (pos needed)) e
    ∙ no-fault (int_lt (pos (natural z)) (pos needed)) k (pos (natural z)) (pos needed) (le-ltb (natural z) needed le)

child-long : (type : KindTree) (c : ArrayTree) (needed k : ℕ) → IsLive type → LayoutOk type c → needed ≤ tree_items c
    → short_child needed k (live_length c) ≡ None
child-long Released c needed k live ok le = absurd live
child-long (Live kind kids dict) Released needed k live ok le = absurd (live-of (Live kind kids dict) Released live ok)
child-long (Live kind kids dict) (Live m ts d) needed k live ok le = long-enough m.length needed k (length-items kind kids dict m ts d ok) le

all-long : (types : List KindTree) (columns : List ArrayTree) (needed k : ℕ) → AreLawful types columns → All (λ column. needed ≤ tree_items column) columns
    → child_short needed k columns ≡ None
all-long [] [] needed k are long = refl
all-long [] (c ∷ cs) needed k are long = absurd are
all-long (type ∷ types) [] needed k are long = absurd are
all-long (type ∷ types) (c ∷ cs) needed k are long =
    both-none (short_child needed k (live_length c)) (child_short needed (suc k) cs)
    (child-long type c needed k are.0 are.1 (All-head (λ column. needed ≤ tree_items column) c cs long))
    (all-long types cs needed (suc k) are.2 (All-tail (λ column. needed ≤ tree_items column) c cs long))

same-number : (types : List KindTree) (columns : List ArrayTree) → AreLawful types columns → length columns ≡ length types
same-number [] [] are = refl
same-number [] (c ∷ cs) are = absurd are
same-number (type ∷ types) [] are = absurd are
same-number (type ∷ types) (c ∷ cs) are = ap suc (same-number types cs are.2)

-- ---- none of its items is null

no-nulls : (rows n : ℕ) → null_total (row_members rows) n ≡ 0
no-nulls rows zero = refl
no-nulls rows (suc n) = omega (arith, no-nulls rows n)

null-count : (n : ℕ) → n ≡ 0 → fault_if (not (int_eq (pos 0) (negsuc 0)) && not (int_eq (pos 0) (pos n))) 0 (pos 0) (pos n) ≡ None
null-count n e = ap (λ (m : ℕ). fault_if (not (int_eq (pos 0) (negsuc 0)) && not (int_eq (pos 0) (pos m))) 0 (pos 0) (pos m)) e

-- ---- it is lawful

none-append : {X Y : Type 0} → (f : X → Option Y) (xs ys : List X) → first_some f xs ≡ None → first_some f ys ≡ None → first_some f (xs ++ ys) ≡ None
none-append f xs ys e g = first_some-append f xs ys ∙ both-none (first_some f xs) (first_some f ys) e g

children-pass : (types : List KindTree) (columns : List ArrayTree) → AreLawful types columns → (k : ℕ) (path : Steps)
    → first_some visit_fault (walk_children (walks_of (trees types)) k path (tree_list (trees columns))) ≡ None
children-pass [] [] are k path = refl
children-pass [] (c ∷ cs) are k path = absurd are
children-pass (type ∷ types) [] are k path = absurd are
children-pass (type ∷ types) (c ∷ cs) are k path =
    none-append visit_fault (visits type (path ++ k ∷ []) c) (walk_children (walks_of (trees types)) (suc k) path (tree_list (trees cs)))
    (any-path type [] (path ++ k ∷ []) c (lawful-first_fault type c are.1)) (children-pass types cs are.2 (suc k) path)

module _ (types : List KindTree) (columns : List ArrayTree) (rows : ℕ) (are : AreLawful types columns)
    (long : All (λ column. rows ≤ tree_items column) columns) (few : rows ≤ 2 ^ 40) where
  same-count : count_wrong (length (tree_list (trees columns))) (length (tree_list (trees types))) ≡ None
  same-count =
      let found = length (tree_list (trees columns)) in
      let needed = length (tree_list (trees types)) in
      no-fault (not (found == needed)) 0 (pos found) (pos needed)
      (ap not (eq-eqb found needed (ap length (tree_list-trees columns) ∙ same-number types columns are ∙ sym (ap length (tree_list-trees types)))))

  long-children : child_short (0 + rows) 0 (tree_list (trees columns)) ≡ None
  long-children =
      let start : 0 + rows ≡ rows = omega arith in
      (λ t. child_short (start t) 0 (tree_list-trees columns t)) ∙ all-long types columns rows 0 are long

  met : AreMet (node kinds.Struct (trees types) absent (row_members rows) (trees columns) absent)
  met rules.ChildCount = same-count
  met rules.ChildShort = long-children
  met rules.NullCount = null-count (null_total (row_members rows) rows) (no-nulls rows rows)
  met rules.WindowTooLong = no-fault (nat_lt (2 ^ 40) (0 + rows)) 0 (pos (0 + rows)) (pos (2 ^ 40)) (le-ltb (2 ^ 40) (0 + rows) (omega (arith, few)))
  met _ = refl

  here : node_fault [] (Some (node kinds.Struct (trees types) absent (row_members rows) (trees columns) absent)) ≡ None
  here = none-fails [] (node kinds.Struct (trees types) absent (row_members rows) (trees columns) absent) in_order met

  top : top_fault (table_type types) (struct_tree rows columns) ≡ None
  top = ap (λ (n : ℕ). if nat_lt 0 n then Some (root_fault rules.TopNulls (pos n)) else None) (no-nulls rows rows)

  pub struct-chunk : ChunkOk (table_type types) (struct_tree rows columns)
  struct-chunk = (
    first_fault-lawful (table_type types) (struct_tree rows columns)
        (both-none (node_fault [] (Some (node kinds.Struct (trees types) absent (row_members rows) (trees columns) absent)))
        (first_some visit_fault (walk_children (walks_of (trees types)) 0 [] (tree_list (trees columns)) ++ [])) here
        (none-append visit_fault (walk_children (walks_of (trees types)) 0 [] (tree_list (trees columns))) []
        (children-pass types columns are 0 []) refl)),
    top,
  )

-- ---- its rows

pub readers-are : (types : List KindTree) → readers (trees types) ≡ map value_at types
readers-are [] = refl
readers-are (type ∷ types) = ap (λ others. value_at type ∷ others) (readers-are types)

-- row i is item i of each column
abbrev pub column_rows : List KindTree → List ArrayTree → ℕ → List Row
column_rows types columns rows = each (field_items (map value_at types) columns) 0 rows

pub struct-rows : (types : List KindTree) (columns : List ArrayTree) (rows : ℕ)
    → rows_of (table_type types) (struct_tree rows columns) ≡ column_rows types columns rows
struct-rows types columns rows =
    each-same (row_items (table_type types) (struct_tree rows columns)) (field_items (map value_at types) columns) 0 0 rows (λ i lt.
    let place : 0 + (0 + i) ≡ 0 + i = omega arith in
    (λ t. field_items (readers-are types t) (tree_list-trees columns t) (place t)))
