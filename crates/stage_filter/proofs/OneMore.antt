-- One column more.
use Rattle.std.proofs.Common.{◌≡◌, ◌∙◌, ◌+◌, ◌++◌, ℕ, List, [], ◌∷◌, length, drop, get_or, refl, sym, ap, arith}
use Rattle.std.specs.List.{sum_by}
use Rattle.std.proofs.lemmas.List.Sums.{sum_by_push}
use Rattle.data_types.specs.promise.Parts.{column_values}
use Rattle.data_types.specs.promise.Table.{Column, Row}
use Rattle.tree_model.specs.promise.TreeData.{Released}
use Rattle.tree_model.specs.promise.TreeParts.{child_at, children_of}
use Rattle.unit_pass.specs.promise.Tally.{risen}
use Rattle.unit_pass.specs.Tally.{Tally}
use Rattle.raw_array.specs.promise.Members.{ArrayTree, members_of}
use Rattle.data_types.specs.promise.ColumnKinds.{type_of_kind}
use Rattle.layout_rules.specs.promise.Layout.{first}
use Rattle.stage_model.specs.promise.Traffic.{Moved, blocks_from, kind_blocks, kind_nodes}
use Rattle.column_fill.specs.Gathered.{values_at}
use Rattle.stage_filter.specs.KeptTrees.{kept_columns, kept_tree}
use Rattle.stage_filter.specs.Moving.{AreFiltered, IsFiltered}
use Rattle.stage_filter.specs.Plain.{most_cost, most_of_columns}
use Rattle.stage_filter.proofs.Steps.{later-child}

kept-push : (cs : List Column) (c : Column) (children : List ArrayTree) (start : ℕ) (kept : List ℕ)
    → kept_columns (cs ++ c ∷ []) children start kept
    ≡ kept_columns cs children start kept ++ kept_tree c.kind (get_or children (length cs) Released) start kept ∷ []
kept-push [] c children start kept = refl
kept-push (b ∷ cs) c children start kept =
    ap (λ (ts : List ArrayTree). kept_tree b.kind (get_or children 0 Released) start kept ∷ ts)
    (kept-push cs c (drop 1 children) start kept
    ∙ ap (λ (t : ArrayTree). kept_columns cs (drop 1 children) start kept ++ kept_tree c.kind t start kept ∷ []) (later-child children (length cs)))

blocks-push : (place : ℕ) (cs : List Column) (c : Column) (rows : List Row)
    → blocks_from Moved place (cs ++ c ∷ []) rows ≡ blocks_from Moved place cs rows + kind_blocks Moved c.kind (column_values (place + length cs) rows)
blocks-push place [] c rows =
    let e : place ≡ place + 0 = omega arith in
    let f = ap (λ n. kind_blocks Moved c.kind (column_values n rows)) e in
    omega (arith, f)
blocks-push place (b ∷ cs) c rows =
    let e : place + 1 + length cs ≡ place + length (b ∷ cs) = omega arith in
    let f = ap (λ n. kind_blocks Moved c.kind (column_values n rows)) e in
    omega (arith, f, blocks-push (place + 1) cs c rows)

most-push : (cs : List Column) (c : Column) → most_of_columns (cs ++ c ∷ []) ≡ most_of_columns cs + most_cost c.kind
most-push [] c = omega arith
most-push (b ∷ cs) c = omega (arith, most-push cs c)

risen-more : (a b c m n : ℕ) → b ≡ risen a m → c ≡ risen b n → c ≡ risen a (m + n)
risen-more a b c m n e f = omega (arith, e, f)

-- the arrays of one column more
pub moved-more : (cs : List Column) (c : Column) (array child : ArrayTree) (start : ℕ) (kept : List ℕ) (rows : List Row) (arrays more : List ArrayTree)
    (made : ArrayTree) (before middle after : Tally)
    → AreFiltered cs array start kept rows arrays before middle
    → IsFiltered c.kind child (first (members_of array) + start) kept made middle after → child ≡ child_at array (length cs)
    → values_at (type_of_kind c.kind) child (first (members_of array) + start) kept ≡ column_values (length cs) rows → more ≡ arrays ++ made ∷ []
    → AreFiltered (cs ++ c ∷ []) array start kept rows more before after
moved-more cs c array child start kept rows arrays more made before middle after are is own same pushed =
    let inner = first (members_of array) + start in
    let values = values_at (type_of_kind c.kind) child inner kept in
    let place : 0 + length cs ≡ length cs = omega arith in
    let here : values ≡ column_values (0 + length cs) rows = same ∙ ap (λ n. column_values n rows) (sym place) in
    let blocks = ap (kind_blocks Moved c.kind) here in
    let nodes = sum_by_push (λ (b : Column). kind_nodes Moved b.kind) cs c in
    record {
      trees_are = pushed ∙ ap (λ (ts : List ArrayTree). ts ++ made ∷ []) are.trees_are
          ∙ ap (λ (t : ArrayTree). kept_columns cs (children_of array) inner kept ++ t ∷ [])
          (is.tree_is ∙ ap (λ (t : ArrayTree). kept_tree c.kind t inner kept) own)
          ∙ sym (kept-push cs c (children_of array) inner kept);
      left = omega (arith, are.left, is.left, most-push cs c);
      blocks = risen-more before.blocks middle.blocks after.blocks (blocks_from Moved 0 cs rows) (kind_blocks Moved c.kind values) are.blocks is.blocks
          ∙ ap (risen before.blocks) (ap (λ n. blocks_from Moved 0 cs rows + n) blocks ∙ sym (blocks-push 0 cs c rows));
      nodes = risen-more before.nodes middle.nodes after.nodes
          (sum_by (λ (b : Column). kind_nodes Moved b.kind) cs) (kind_nodes Moved c.kind) are.nodes is.nodes
          ∙ ap (risen before.nodes) (sym nodes);
    }
