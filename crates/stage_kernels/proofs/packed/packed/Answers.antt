use Rattle.std.proofs.Common.{arith, ◌≡◌, ◌<◌, ◌≤◌, ◌≤ℤ◌, ◌∙◌, All, IfOk, length, map, pos, get_or, ap, sym, subst, w64, to_z, of_z}
use Rattle.std.proofs.lemmas.Int.{ints}
use Rattle.tree_model.specs.promise.TreeParts.{IsLive, children_of}
use Rattle.tree_model.specs.promise.TreeData.{trees}
use Rattle.tree_model.specs.Tree.{depth_of_all}
use Rattle.raw_array.specs.promise.Members.{ArrayTree, Cost, members_of}
use Rattle.data_types.specs.promise.ColumnKinds.{type_of_columns}
use Rattle.layout_rules.specs.promise.Layout.{natural}
use Rattle.arr_move.specs.TreeActs.{FitParentWindow, InRange}
use Rattle.arr_export.specs.ArrayTrees.{IsColumn}
use Rattle.stages.proofs.CutColumns.{natural-is}
use Rattle.stage_kernels.specs.Packs.{LeftOf, column_in}
use Rattle.stage_kernels.proofs.PackedTrees.{are-live, columns-depth, columns-ready, columns-stay, distinct-back, distinct-front, fits-stays}
use Rattle.stage_kernels.proofs.PackedTrees.{live-costs, packed-tree, two-apart}
use Rattle.stage_kernels.proofs.packed.packed.Goals as goal

-- ---- the columns that are moved
pub length-len-requires : goal.length-len-requires
length-len-requires c = (c.lawful_trees.ensures.root (type_of_columns c.requires.chunk.0) c.args.chunk tt c.requires.chunk.1.0).live

pub begin-moved-requires : goal.begin-moved-requires
begin-moved-requires c = (c.lawful_trees.ensures.root (type_of_columns c.requires.chunk.0) c.args.chunk tt c.requires.chunk.1.0).live

pub move_columns-requires-clause-offset : goal.move_columns-requires-clause-offset
move_columns-requires-clause-offset c =
    let root = c.lawful_trees.ensures.root (type_of_columns c.requires.chunk.0) c.args.chunk tt c.requires.chunk.1.0 in
    subst (λ (t : ArrayTree). pos 0 ≤ℤ (members_of t).offset) (sym c.begin-moved.ensures) root.placed

pub move_columns-requires-clause-length : goal.move_columns-requires-clause-length
move_columns-requires-clause-length c =
    let root = c.lawful_trees.ensures.root (type_of_columns c.requires.chunk.0) c.args.chunk tt c.requires.chunk.1.0 in
    subst (λ (t : ArrayTree). pos 0 ≤ℤ (members_of t).length) (sym c.begin-moved.ensures) root.sized

pub move_columns-requires-clause-distinct : goal.move_columns-requires-clause-distinct
move_columns-requires-clause-distinct c = distinct-front c.args.rest.now c.args.picks.now c.requires.distinct

pub move_columns-requires-clause-in_range : goal.move_columns-requires-clause-in_range
move_columns-requires-clause-in_range c =
    let range = c.columns_of_a_table.ensures.select_range c.requires.chunk.0 c.args.chunk c.args.rest.now c.requires.chunk.1 c.requires.chunk.2 in
    subst (λ t. InRange t c.args.rest.now) (sym c.begin-moved.ensures) range

pub move_columns-requires-clause-fit : goal.move_columns-requires-clause-fit
move_columns-requires-clause-fit c =
    let fit = c.columns_of_a_table.ensures.select_fits c.requires.chunk.0 c.args.chunk c.args.rest.now c.requires.chunk.1 c.requires.chunk.2 in
    subst (λ t. FitParentWindow t c.args.rest.now) (sym c.begin-moved.ensures) fit

pub move_columns-requires-2-clause-in_range : goal.move_columns-requires-2-clause-in_range
move_columns-requires-2-clause-in_range c =
    let picks = c.args.picks.now in
    let range = c.columns_of_a_table.ensures.select_range c.requires.chunk.0 c.args.chunk picks c.requires.chunk.1 c.requires.chunk.3 in
    let same = c.move_columns.ensures.left.places ∙ ap (λ t. length (children_of t)) c.begin-moved.ensures in
    λ k inside. subst (λ n. get_or picks k 0 < n) (sym same) (range k inside)

pub move_columns-requires-2-clause-offset : goal.move_columns-requires-2-clause-offset
move_columns-requires-2-clause-offset c =
    let root = c.lawful_trees.ensures.root (type_of_columns c.requires.chunk.0) c.args.chunk tt c.requires.chunk.1.0 in
    let same = ap (λ m. m.offset) (c.move_columns.ensures.left.members ∙ ap members_of c.begin-moved.ensures) in
    subst (λ z. pos 0 ≤ℤ z) (sym same) root.placed

pub move_columns-requires-2-clause-length : goal.move_columns-requires-2-clause-length
move_columns-requires-2-clause-length c =
    let root = c.lawful_trees.ensures.root (type_of_columns c.requires.chunk.0) c.args.chunk tt c.requires.chunk.1.0 in
    let same = ap (λ m. m.length) (c.move_columns.ensures.left.members ∙ ap members_of c.begin-moved.ensures) in
    subst (λ z. pos 0 ≤ℤ z) (sym same) root.sized

pub move_columns-requires-2-clause-distinct : goal.move_columns-requires-2-clause-distinct
move_columns-requires-2-clause-distinct c = distinct-back c.args.rest.now c.args.picks.now c.requires.distinct

pub move_columns-requires-2-clause-fit : goal.move_columns-requires-2-clause-fit
move_columns-requires-2-clause-fit c =
    let rest = c.args.rest.now in
    let picks = c.args.picks.now in
    let fit : FitParentWindow c.args.chunk picks =
    c.columns_of_a_table.ensures.select_fits c.requires.chunk.0 c.args.chunk picks c.requires.chunk.1 c.requires.chunk.3 in
    let left = subst (λ t. LeftOf t rest (length rest) c.move_columns.new.moved) c.begin-moved.ensures c.move_columns.ensures.left in
    λ k inside. fits-stays c.args.chunk c.move_columns.new.moved rest (length rest) (get_or picks k 0) left
    (λ i lt. two-apart rest picks c.requires.distinct i k lt inside) (fit k inside)

-- ---- the chunk that is built
pub built-requires-clause-some : goal.built-requires-clause-some
built-requires-clause-some c =
    let root = c.lawful_trees.ensures.root (type_of_columns c.requires.chunk.0) c.args.chunk tt c.requires.chunk.1.0 in
    omega (arith, ints, c.length-len.ensures, root.sized)

pub built-requires-clause-few : goal.built-requires-clause-few
built-requires-clause-few c =
    let root = c.lawful_trees.ensures.root (type_of_columns c.requires.chunk.0) c.args.chunk tt c.requires.chunk.1.0 in
    let long = natural-is (members_of c.args.chunk).length root.sized in
    omega (arith, ints, c.length-len.ensures, long, root.near)

pub built-requires-clause-columns : goal.built-requires-clause-columns
built-requires-clause-columns c =
    let root = c.lawful_trees.ensures.root (type_of_columns c.requires.chunk.0) c.args.chunk tt c.requires.chunk.1.0 in
    let rest = c.args.rest.now in
    let len : to_z w64 (of_z w64 c.length-len.result) ≡ (members_of c.args.chunk).length = omega (arith, ints, c.length-len.ensures) in
    let range = c.columns_of_a_table.ensures.select_range c.requires.chunk.0 c.args.chunk rest c.requires.chunk.1 c.requires.chunk.2 in
    let fit = c.columns_of_a_table.ensures.select_fits c.requires.chunk.0 c.args.chunk rest c.requires.chunk.1 c.requires.chunk.2 in
    let ready = columns-ready c.windows_are_parts.ensures.items c.args.chunk rest root.placed root.sized c.requires.not_deep range fit in
    let same = c.move_columns.ensures.columns ∙ ap (λ t. map (column_in t) rest) c.begin-moved.ensures in
    subst (λ n. All (IsColumn (natural n)) c.move_columns.new.columns.items) (sym len)
    (subst (All (IsColumn (natural (members_of c.args.chunk).length))) (sym same) ready)

pub built-requires-clause-members : goal.built-requires-clause-members
built-requires-clause-members c =
    let root = c.lawful_trees.ensures.root (type_of_columns c.requires.chunk.0) c.args.chunk tt c.requires.chunk.1.0 in
    let rest = c.args.rest.now in
    let picks = c.args.picks.now in
    let len : to_z w64 (of_z w64 c.length-len.result) ≡ (members_of c.args.chunk).length = omega (arith, ints, c.length-len.ensures) in
    let range = c.columns_of_a_table.ensures.select_range c.requires.chunk.0 c.args.chunk picks c.requires.chunk.1 c.requires.chunk.3 in
    let fit = c.columns_of_a_table.ensures.select_fits c.requires.chunk.0 c.args.chunk picks c.requires.chunk.1 c.requires.chunk.3 in
    let ready = columns-ready c.windows_are_parts.ensures.items c.args.chunk picks root.placed root.sized c.requires.not_deep range fit in
    let left = subst (λ t. LeftOf t rest (length rest) c.move_columns.new.moved) c.begin-moved.ensures c.move_columns.ensures.left in
    let same = c.move_columns-2.ensures.columns ∙ columns-stay c.args.chunk c.move_columns.new.moved rest picks left c.requires.distinct in
    subst (λ n. All (IsColumn (natural n)) c.move_columns-2.new.columns.items) (sym len)
    (subst (All (IsColumn (natural (members_of c.args.chunk).length))) (sym same) ready)

pub built-requires-clause-not_deep : goal.built-requires-clause-not_deep
built-requires-clause-not_deep c =
    let rest = c.args.rest.now in
    let picks = c.args.picks.now in
    let range = c.columns_of_a_table.ensures.select_range c.requires.chunk.0 c.args.chunk picks c.requires.chunk.1 c.requires.chunk.3 in
    let left = subst (λ t. LeftOf t rest (length rest) c.move_columns.new.moved) c.begin-moved.ensures c.move_columns.ensures.left in
    let same = c.move_columns-2.ensures.columns ∙ columns-stay c.args.chunk c.move_columns.new.moved rest picks left c.requires.distinct in
    subst (λ cs. depth_of_all (trees cs) ≤ 126) (sym same) (columns-depth c.args.chunk picks range c.requires.not_deep)

pub built-requires-clause-few_columns : goal.built-requires-clause-few_columns
built-requires-clause-few_columns c =
    let rest = c.args.rest.now in
    let fit = c.columns_of_a_table.ensures.select_fits c.requires.chunk.0 c.args.chunk rest c.requires.chunk.1 c.requires.chunk.2 in
    let same = c.move_columns.ensures.columns ∙ ap (λ t. map (column_in t) rest) c.begin-moved.ensures in
    let live = subst (All IsLive) (sym same) (are-live c.args.chunk rest fit) in
    let count = live-costs c.move_columns.new.columns.items live in
    let all = ap Cost c.begin-moved.ensures in
    omega (arith, count, all, c.move_columns.ensures.cost, c.move_columns-2.ensures.cost, c.finish.ensures.parent, c.requires.units, c.requires.supply)

pub built-requires-clause-few_members : goal.built-requires-clause-few_members
built-requires-clause-few_members c =
    let rest = c.args.rest.now in
    let picks = c.args.picks.now in
    let fit = c.columns_of_a_table.ensures.select_fits c.requires.chunk.0 c.args.chunk picks c.requires.chunk.1 c.requires.chunk.3 in
    let left = subst (λ t. LeftOf t rest (length rest) c.move_columns.new.moved) c.begin-moved.ensures c.move_columns.ensures.left in
    let same = c.move_columns-2.ensures.columns ∙ columns-stay c.args.chunk c.move_columns.new.moved rest picks left c.requires.distinct in
    let live = subst (All IsLive) (sym same) (are-live c.args.chunk picks fit) in
    let count = live-costs c.move_columns-2.new.columns.items live in
    let all = ap Cost c.begin-moved.ensures in
    omega (arith, count, all, c.move_columns.ensures.cost, c.move_columns-2.ensures.cost, c.finish.ensures.parent, c.requires.units, c.requires.supply)

pub returns-clause-tree : goal.returns-clause-tree
returns-clause-tree c =
    let root = c.lawful_trees.ensures.root (type_of_columns c.requires.chunk.0) c.args.chunk tt c.requires.chunk.1.0 in
    let rest = c.args.rest.now in
    let picks = c.args.picks.now in
    let len : to_z w64 (of_z w64 c.length-len.result) ≡ (members_of c.args.chunk).length = omega (arith, ints, c.length-len.ensures) in
    let left = subst (λ t. LeftOf t rest (length rest) c.move_columns.new.moved) c.begin-moved.ensures c.move_columns.ensures.left in
    let cols = c.move_columns.ensures.columns ∙ ap (λ t. map (column_in t) rest) c.begin-moved.ensures in
    let mems = c.move_columns-2.ensures.columns ∙ columns-stay c.args.chunk c.move_columns.new.moved rest picks left c.requires.distinct in
    subst (λ t. IfOk c.built.result (λ tree. tree ≡ t)) (packed-tree c.args.chunk rest picks _ _ _ len root.sized cols mems) c.built.ensures.tree
