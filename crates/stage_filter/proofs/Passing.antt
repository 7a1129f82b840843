-- The rows of a chunk that pass, as those of the kept numbers.
use Rattle.std.proofs.Common.{◌≡◌, ◌∙◌, ◌≤◌, ◌+◌, ◌-◌, ℕ, zero, suc, Bool, List, ◌∷◌, length, map, get_or, refl, sym, ap, subst, arith}
use Rattle.std.specs.List.{filter}
use Rattle.data_types.specs.promise.Parts.{column_values}
use Rattle.data_types.specs.promise.Table.{Column, Row}
use Rattle.data_types.specs.promise.Value.{Null}
use Rattle.tree_model.specs.promise.TreeParts.{IsLive, child_at}
use Rattle.tree_model.specs.promise.TreeData.{Released}
use Rattle.tree_model.proofs.Lists.{tree_list-trees}
use Rattle.raw_array.specs.promise.Members.{ArrayTree, members_of}
use Rattle.data_types.specs.promise.ColumnKinds.{type_of_columns}
use Rattle.data_types.specs.ColumnKinds.{types_of_columns}
use Rattle.data_types.specs.promise.KindTrees.{KindTree}
use Rattle.layout_rules.specs.promise.Layout.{first}
use Rattle.layout_rules.specs.promise.Values.{each, row_items, rows_of, tree_items, value_at}
use Rattle.arr_import.specs.Window.{child_window, item_at, whole}
use Rattle.stage_model.specs.promise.Stages.{passes}
use Rattle.stage_model.specs.declared.stage.Const.{Const}
use Rattle.stage_model.specs.declared.stage.Test.{Test}
use Rattle.stream_face.specs.Lawful.{AreItems}
use Rattle.column_fill.proofs.Counts.{count-is}
use Rattle.stage_filter.specs.Filters.{CanFilter, passing_numbers, passing_rows}
use Rattle.stage_filter.specs.Kept.{numbers, rows_at}
use Rattle.stage_filter.specs.Moving.{CanMoveRows}
use Rattle.stage_filter.proofs.LawTypes.{RootLaw}
use Rattle.stage_filter.proofs.Numbers.{kept-are, kept-below, length-numbers}
use Rattle.stage_filter.proofs.Sifted.{fewer, filter-sifted, table-filtered}
use Rattle.stage_filter.proofs.Steps.{row-field}

-- ---- how many rows are kept
each-agree : {X : Type 0} (f g : ℕ → X) (from n : ℕ) → ((i : ℕ) → f i ≡ g i) → each f from n ≡ each g from n
each-agree f g from zero same = refl
each-agree f g from (suc n) same =
    ap (λ x. x ∷ each f (suc from) n) (same from) ∙ ap (λ xs. g from ∷ xs) (each-agree f g (suc from) n same)

few-kept : (p : ℕ → Bool) (from n : ℕ) → length (filter p (numbers from n)) ≤ n
few-kept p from n =
    let e = ap length (filter-sifted p (numbers from n)) in
    omega (arith, e, fewer (map p (numbers from n)) (numbers from n), length-numbers from n)

-- ---- the rows that pass
-- the kept rows, and that they can be moved
pub record IsPassing (column : ℕ) (test : Test) (constant : Const) (columns : List Column) (chunk : ArrayTree) (kept : List ℕ) : Type 0 where
  pub can : CanMoveRows columns chunk 0 kept
  pub rows : rows_at (type_of_columns columns) chunk 0 kept ≡ passing_rows column test constant columns chunk

-- the item of a row in a column
row-item : (columns : List Column) (chunk : ArrayTree) (column i : ℕ) → IsLive chunk
    → get_or (row_items (type_of_columns columns) chunk (0 + i)) column Null
    ≡ item_at (child_window (whole (type_of_columns columns) chunk) column) i
row-item columns chunk column i live =
    let types = types_of_columns columns in
    let e : first (members_of chunk) + (0 + i) ≡ first (members_of chunk) + 0 + i = omega arith in
    row-field types chunk (0 + i) column live
    ∙ (λ n. value_at (get_or (sym (tree_list-trees types) n) column Released) (child_at chunk column) (e n))

of-numbers : (column : ℕ) (test : Test) (constant : Const) (columns : List Column) (chunk : ArrayTree) → IsLive chunk → CanFilter column columns chunk
    → IsPassing column test constant columns chunk (passing_numbers column test constant (type_of_columns columns) chunk)
of-numbers column test constant columns chunk live can =
    let typed = type_of_columns columns in
    let own = child_window (whole typed chunk) column in
    let n = tree_items chunk in
    let row_at : ℕ → Row = λ i. row_items typed chunk (0 + i) in
    let p : ℕ → Bool = λ i. passes test constant (item_at own i) in
    let q : Row → Bool = λ row. passes test constant (get_or row column Null) in
    let all : each row_at 0 n ≡ rows_of typed chunk =
    each-agree row_at (row_items typed chunk) 0 n (λ i. let e : 0 + i ≡ i = omega arith in ap (row_items typed chunk) e) in
    let rows : rows_at typed chunk 0 (filter p (numbers 0 n)) ≡ filter q (rows_of typed chunk) =
    kept-are row_at p q 0 n (λ i. ap (passes test constant) (sym (row-item columns chunk column i live))) ∙ ap (filter q) all in
    let table = table-filtered columns q (rows_of typed chunk) can.table in
    record {
      can = record {
        kinds = can.kinds;
        ok = can.ok.0;
        full = can.full;
        begins = omega arith;
        inside = λ k d small. let below = kept-below p 0 n n (omega arith) k d small in omega (arith, below);
        items = λ k none small.
            subst (λ (rs : List Row). AreItems (get_or columns k none).kind (column_values k rs)) (sym rows) (table.items k none small);
        few = omega (arith, few-kept p 0 n, count-is typed chunk, can.few);
        not_deep = can.not_deep;
        small = can.small;
      };
      rows = rows;
    }

pub passing : RootLaw → (column : ℕ) (test : Test) (constant : Const) (columns : List Column) (chunk : ArrayTree) (kept : List ℕ)
    → CanFilter column columns chunk → kept ≡ passing_numbers column test constant (type_of_columns columns) chunk
    → IsPassing column test constant columns chunk kept
passing root column test constant columns chunk kept can are =
    subst (IsPassing column test constant columns chunk) (sym are)
    (of-numbers column test constant columns chunk (root (type_of_columns columns) chunk tt can.ok.0).live can)
