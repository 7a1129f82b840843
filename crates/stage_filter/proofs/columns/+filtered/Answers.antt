use Rattle.std.proofs.Common.{rules, ◌≡◌, ◌∙◌, ◌≤◌, ◌<◌, ◌+◌, ◌++◌, ◌∷◌, [], map, take, length, get_or, List, All, pos, to_z, w64, sym, ap, subst, arith}
use Rattle.std.proofs.lemmas.Int.{ints}
use Rattle.std.proofs.lemmas.List.{get_or-map, length-map, length-set, length-take, map_more, take-map}
use Rattle.data_types.specs.promise.ColumnView.{members}
use Rattle.data_types.specs.ColumnView.{column_of, kind_of}
use Rattle.data_types.specs.promise.Parts.{column_values}
use Rattle.data_types.specs.promise.Table.{Column, Columns as StructOf}
use Rattle.data_types.specs.declared.kind.ColKind.{ColKind}
use Rattle.data_types.specs.declared.kind.ColumnType.{ColumnType}
use Rattle.tree_model.specs.promise.TreeParts.{IsLive, child_at, children_of}
use Rattle.tree_model.specs.promise.TreeData.{Released, trees}
use Rattle.raw_array.specs.promise.Members.{ArrayTree, members_of}
use Rattle.raw_array.specs.Members.{cost_of_all}
use Rattle.data_types.specs.promise.ColumnKinds.{type_of_columns, type_of_kind}
use Rattle.data_types.specs.KindTrees.{TypedOk}
use Rattle.layout_rules.specs.promise.Layout.{first, natural}
use Rattle.data_types.specs.declared.typed.Typed.{out-Typed}
use Rattle.data_types.specs.promise.TypedView.{typed_of}
use Rattle.data_types.specs.TypedView.{kids_of}
use Rattle.arr_export.specs.ArrayTrees.{IsColumn}
use Rattle.arr_move.proofs.MovedChildren.{at-place, children-set, cost-push, rest-taken}
use Rattle.stage_filter.specs.Kept.{rows_at}
use Rattle.stage_filter.specs.Moving.{AreFiltered, CanMove, CanMoveRows, IsFiltered}
use Rattle.stage_filter.specs.Plain.{most_cost, most_of_columns}
use Rattle.stage_filter.proofs.KeptColumns.{live-type}
use Rattle.stage_filter.proofs.KeptShapes.{are-columns, long-columns}
use Rattle.stage_filter.proofs.Kids.{kid-of, many-kids}
use Rattle.stage_filter.proofs.OneMore.{moved-more}
use Rattle.column_fill.proofs.Counts.{kids-long}
use Rattle.stage_filter.proofs.Steps.{few-columns, moved-struct-if, step, struct-of}
use Rattle.stage_filter.proofs.StructColumns.{struct-view}
use Rattle.stage_filter.proofs.columns.+filtered.Goals as goal

-- ---- a child
pub moved_child-unreachable-requires : goal.moved_child-unreachable-requires
moved_child-unreachable-requires t c =
    let kind = kind_of c.args.kind.now in
    let child = child_at c.args.array.now c.args.k in
    subst IsLive c.in-Err.ensures.released (c.lawful_trees.ensures.root (type_of_kind kind) child (live-type kind) c.requires.items.ok).live

-- ---- the columns, one by one
pub move_columns-first_of-requires : goal.move_columns-first_of-requires
move_columns-first_of-requires t c =
    (c.lawful_trees.ensures.root (type_of_columns (map column_of c.args.columns.now)) c.args.array.now tt c.requires.rows.ok).placed

pub move_columns-overflow_add-inner : goal.move_columns-overflow_add-inner
move_columns-overflow_add-inner t c =
    let node = c.lawful_trees.ensures.root (type_of_columns (map column_of c.args.columns.now)) c.args.array.now tt c.requires.rows.ok in
    omega (arith, ints, c.first_of.ensures, node.near, node.many, c.requires.rows.begins)

pub move_columns-index-kid-requires : goal.move_columns-index-kid-requires
move_columns-index-kid-requires t c =
    let kids = (out-Typed c.args.typed.now).kids.items in
    let many = many-kids c.args.typed.now (map column_of c.args.columns.now) c.kinds_of_typed.ensures c.requires.typed in
    let inside : c.loop-k.k < length kids = omega (arith, many, length-map c.args.columns.now column_of, c.loop-k-test.true) in
    let own : c.loop-k.k < length (kids_of c.args.typed.now) = omega (arith, inside, length-map kids typed_of) in
    search rules

pub move_columns-moved_child-requires : goal.move_columns-moved_child-requires
move_columns-moved_child-requires t c =
    let law = c.lawful_trees.ensures in
    let item = c.index-columns-k.result in
    let k = c.loop-k.k in
    let all = c.args.columns.now in
    let array = c.args.array.now in
    let kept = c.args.kept.now in
    let long = length-map all column_of in
    let small : k < length (map column_of all) = omega (arith, long, c.loop-k-test.true) in
    let is : get_or (map column_of all) k (column_of item) ≡ column_of item =
    get_or-map column_of all k item (column_of item) c.loop-k-test.true ∙ ap column_of (sym c.index-columns-k.is) in
    let one = step law.root law.parts law.items (map column_of all) k (column_of item) array c.args.start kept c.requires.rows small is in
    let inner : first (members_of array) + c.args.start ≡ c.first_of.result + c.args.start = omega (arith, c.first_of.ensures) in
    let here : child_at array k ≡ child_at c.loop-k.array k =
    sym (at-place (children_of c.loop-k.array) (children_of array) k c.loop-k.invariant.rest) in
    let can : CanMove (kind_of item.kind) (child_at c.loop-k.array k) (c.first_of.result + c.args.start) kept =
    subst (λ (u : ArrayTree). CanMove (kind_of item.kind) u (c.first_of.result + c.args.start) kept) here
    (subst (λ n. CanMove (kind_of item.kind) (child_at array k) n kept) inner one.can) in
    let kid = kid-of c.args.typed.now c.index-kid.result.now (map column_of all) k (column_of item) c.kinds_of_typed.ensures c.requires.typed c.requires.types
    small c.index-kid.ensures one.type one.shallow in
    let typed : typed_of c.index-kid.result.now ≡ type_of_kind (kind_of item.kind) = kid.typed in
    let types : TypedOk (typed_of c.index-kid.result.now) = kid.ok in
    let shallow = one.shallow in
    let most = one.most in
    let before = ap most_of_columns (take-map column_of k all) in
    let made = c.loop-k.invariant.moved in
    let units : most_cost (kind_of item.kind) ≤ c.loop-k.pass.units = omega (arith, most, before, made.left, c.requires.units) in
    let room = c.loop-k.invariant.units in
    let node = law.root (type_of_columns (map column_of all)) array tt c.requires.rows.ok in
    let many = kids-long (map column_of all) in
    let inside : k < length (children_of c.loop-k.array) = omega (arith, c.loop-k.invariant.places, node.kids, many, small) in
    search rules

pub move_columns-loop-k-preserved : goal.move_columns-loop-k-preserved
move_columns-loop-k-preserved t c =
    let law = c.lawful_trees.ensures in
    let item = c.index-columns-k.result in
    let k = c.loop-k.k in
    let all = c.args.columns.now in
    let array = c.args.array.now in
    let old = c.loop-k.array in
    let kept = c.args.kept.now in
    let rows = rows_at (type_of_columns (map column_of all)) array c.args.start kept in
    let long = length-map all column_of in
    let small : k < length (map column_of all) = omega (arith, long, c.loop-k-test.true) in
    let is : get_or (map column_of all) k (column_of item) ≡ column_of item =
    get_or-map column_of all k item (column_of item) c.loop-k-test.true ∙ ap column_of (sym c.index-columns-k.is) in
    let one = step law.root law.parts law.items (map column_of all) k (column_of item) array c.args.start kept c.requires.rows small is in
    let inner : c.first_of.result + c.args.start ≡ first (members_of array) + c.args.start = omega (arith, c.first_of.ensures) in
    let here : child_at old k ≡ child_at array k = at-place (children_of old) (children_of array) k c.loop-k.invariant.rest in
    let so_far = map column_of (take k all) in
    let place : length so_far ≡ k = omega (arith, length-map (take k all) column_of, length-take k all, c.loop-k-test.true) in
    let is_made = c.in-Ok.ensures.moved in
    let made : IsFiltered (kind_of item.kind) (child_at array k) (first (members_of array) + c.args.start) kept c.in-Ok.made c.loop-k.pass
    c.moved_child.new.pass =
    subst (λ n. IsFiltered (kind_of item.kind) (child_at array k) n kept c.in-Ok.made c.loop-k.pass c.moved_child.new.pass) inner
    (subst (λ (u : ArrayTree). IsFiltered (kind_of item.kind) u (c.first_of.result + c.args.start) kept c.in-Ok.made c.loop-k.pass
    c.moved_child.new.pass) here is_made) in
    let moved = moved-more so_far (column_of item) array (child_at array k) c.args.start kept rows c.loop-k.arrays.items
    c.push_reserved.new.self.items c.in-Ok.made c.args.pass.now c.loop-k.pass c.moved_child.new.pass c.loop-k.invariant.moved
    made (ap (λ n. child_at array n) (sym place)) (one.values ∙ ap (λ n. column_values n rows) (sym place)) c.push_reserved.ensures.items in
    let more : map column_of (take (k + 1) all) ≡ so_far ++ column_of item ∷ [] =
    map_more column_of all k item c.loop-k-test.true ∙ ap (λ (x : ColumnType). so_far ++ column_of x ∷ []) (sym c.index-columns-k.is) in
    let taken = c.moved_child.ensures.taken in
    let number = ap (λ (u : ArrayTree). length (children_of u)) taken ∙ ap length (children-set old k Released)
    ∙ length-set (children_of old) k Released in
    let cost = ap (λ (ts : List ArrayTree). cost_of_all (trees ts)) c.push_reserved.ensures.items in
    let push = cost-push c.loop-k.arrays.items c.in-Ok.made in
    record {
      moved = subst (λ (cs : List Column). AreFiltered cs array c.args.start kept rows c.push_reserved.new.self.items c.args.pass.now c.moved_child.new.pass)
          (sym more) moved;
      count = omega (arith, c.push_reserved.ensures.len, c.loop-k.invariant.count);
      room = omega (arith, c.push_reserved.ensures.capacity, c.loop-k.invariant.room);
      places = number ∙ c.loop-k.invariant.places;
      rest = rest-taken array old c.moved_child.new.array k c.loop-k.invariant.rest taken;
      units = omega (arith, cost, push, is_made.units, c.moved_child.ensures.cost, c.loop-k.invariant.units);
    }

-- ---- a struct
pub filtered_columns-begin-moved-requires : goal.filtered_columns-begin-moved-requires
filtered_columns-begin-moved-requires t c =
    (c.lawful_trees.ensures.root (type_of_columns (map column_of c.args.columns.now)) c.args.array tt c.requires.rows.ok).live

pub filtered_struct-export_table-requires-clause-few_columns : goal.filtered_struct-export_table-requires-clause-few_columns
filtered_struct-export_table-requires-clause-few_columns t c =
    let columns = map column_of c.args.columns.now in
    let inner = first (members_of c.args.array) + c.args.start in
    let many = ap length c.in_ok-arrays.ensures.moved.trees_are ∙ long-columns columns (children_of c.args.array) inner c.args.kept.now in
    omega (arith, many, few-columns columns, c.requires.rows.small)

pub filtered_struct-export_table-requires-clause-columns : goal.filtered_struct-export_table-requires-clause-columns
filtered_struct-export_table-requires-clause-columns t c =
    let law = c.lawful_trees.ensures in
    let columns = map column_of c.args.columns.now in
    let kept = c.args.kept.now in
    let whole : to_z w64 (length kept) ≡ pos (length kept) = omega (arith, ints, c.requires.rows.few) in
    let count : length kept ≡ natural (to_z w64 (length kept)) = ap natural (sym whole) in
    subst (λ n. All (IsColumn n) c.in_ok-arrays.arrays.items) count
    (subst (All (IsColumn (length kept))) (sym c.in_ok-arrays.ensures.moved.trees_are)
    (are-columns law.root law.parts law.items columns c.args.array c.args.start kept c.requires.rows))

-- ---- a column by its kind
pub filtered_kind-filtered_struct-requires : goal.filtered_kind-filtered_struct-requires
filtered_kind-filtered_struct-requires t c =
    let columns = map column_of c.as_slice.result.now in
    let kind = kind_of c.args.kind.now in
    let same : c.as_slice.result.now ≡ c.in-Columns.columns.items = c.as_slice.ensures.value in
    let is : kind ≡ StructOf (members columns) =
    ap (λ (k : ColKind). kind_of k) c.in-Columns.is ∙ struct-view c.in-Columns.columns
    ∙ ap (λ (cs : List ColumnType). StructOf (members (map column_of cs))) (sym same) in
    let struct = struct-of columns kind c.args.array c.args.start c.args.kept.now is c.requires.items in
    let can : CanMoveRows columns c.args.array c.args.start c.args.kept.now = struct.can in
    let typed : typed_of c.args.typed.now ≡ type_of_columns columns = c.requires.typed ∙ struct.type in
    let depth = struct.depth in
    let most = struct.most in
    search rules

pub filtered_kind-returns-in-Columns-clause-moved : goal.filtered_kind-returns-in-Columns-clause-moved
filtered_kind-returns-in-Columns-clause-moved t c =
    let columns = map column_of c.as_slice.result.now in
    let kind = kind_of c.args.kind.now in
    let same : c.as_slice.result.now ≡ c.in-Columns.columns.items = c.as_slice.ensures.value in
    let is : kind ≡ StructOf (members columns) =
    ap (λ (k : ColKind). kind_of k) c.in-Columns.is ∙ struct-view c.in-Columns.columns
    ∙ ap (λ (cs : List ColumnType). StructOf (members (map column_of cs))) (sym same) in
    moved-struct-if columns kind c.args.array c.args.start c.args.kept.now c.filtered_struct.result c.args.pass.now c.filtered_struct.new.pass is c.requires.items
    c.filtered_struct.ensures.moved
