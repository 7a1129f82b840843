use Rattle.std.proofs.Common.{◌≡◌, ◌∙◌, ◌≤◌, ◌+◌, ◌^◌, ◌∷◌, [], ℕ, length, map, None, ap, sym, subst, arith}
use Rattle.std.proofs.lemmas.List.{length-map}
use Rattle.data_types.specs.promise.Table.{Flat}
use Rattle.tree_model.specs.promise.TreeParts.{child_at, children_of}
use Rattle.raw_array.specs.promise.Members.{members_of}
use Rattle.data_types.specs.promise.ColumnKinds.{type_of_kind}
use Rattle.data_types.specs.promise.KindTrees.{kind_in}
use Rattle.data_types.specs.promise.TypedView.{typed_of}
use Rattle.data_types.specs.TypedView.{kind_of}
use Rattle.layout_rules.specs.promise.Layout.{first}
use Rattle.layout_rules.specs.promise.Values.{rows_of, value_at}
use Rattle.arr_export.specs.promise.ArrayTrees.{column_tree, table_tree}
use Rattle.arr_export.specs.ArrayTrees.{IsColumn}
use Rattle.column_fill.specs.Gathered.{values_at}
use Rattle.list_cols.specs.promise.NestedTables.{keys_of, nested_column}
use Rattle.list_cols.proofs.NestedKids.{can-runs, key-column, key-fit, kid-here, near-firsts}
use Rattle.list_cols.proofs.NestedWhole.{few-keys, lone-array, lone-fit, many-rows, one-column}
use Rattle.list_cols.proofs.nest_alone.keys_table.Goals as goal

pub lawful_values_fit-requires : goal.lawful_values_fit-requires
lawful_values_fit-requires c =
    let laws = c.lawful_trees.ensures in
    let t = c.args.typed.now in
    let own = c.index-kid.result.now in
    let array = c.args.array.now in
    let child = c.child-items.result.now in
    let k = c.args.column in
    let kid = kid-here t own array child k k c.kinds_of_typed.ensures c.kinds_of_typed-2.ensures c.requires.types c.requires.inside
    c.index-kid.ensures c.child-items.ensures laws.root laws.parts laws.items c.chunks_are_tables.ensures.chunk c.flat_types_have_no_children.ensures
    c.requires.chunk in
    record { types = kid.ok; lawful = kid.lawful }

pub far_column-requires-clause-typed : goal.far_column-requires-clause-typed
far_column-requires-clause-typed c =
    let laws = c.lawful_trees.ensures in
    let t = c.args.typed.now in
    let own = c.index-kid.result.now in
    let array = c.args.array.now in
    let child = c.child-items.result.now in
    let k = c.args.column in
    let kid = kid-here t own array child k k c.kinds_of_typed.ensures c.kinds_of_typed-2.ensures c.requires.types c.requires.inside
    c.index-kid.ensures c.child-items.ensures laws.root laws.parts laws.items c.chunks_are_tables.ensures.chunk c.flat_types_have_no_children.ensures
    c.requires.chunk in
    kid.typed

pub far_column-requires-clause-types : goal.far_column-requires-clause-types
far_column-requires-clause-types c =
    let laws = c.lawful_trees.ensures in
    let t = c.args.typed.now in
    let own = c.index-kid.result.now in
    let array = c.args.array.now in
    let child = c.child-items.result.now in
    let k = c.args.column in
    let kid = kid-here t own array child k k c.kinds_of_typed.ensures c.kinds_of_typed-2.ensures c.requires.types c.requires.inside
    c.index-kid.ensures c.child-items.ensures laws.root laws.parts laws.items c.chunks_are_tables.ensures.chunk c.flat_types_have_no_children.ensures
    c.requires.chunk in
    kid.ok

pub far_column-requires-clause-items : goal.far_column-requires-clause-items
far_column-requires-clause-items c =
    let laws = c.lawful_trees.ensures in
    let t = c.args.typed.now in
    let own = c.index-kid.result.now in
    let array = c.args.array.now in
    let child = c.child-items.result.now in
    let k = c.args.column in
    let kid = kid-here t own array child k k c.kinds_of_typed.ensures c.kinds_of_typed-2.ensures c.requires.types c.requires.inside
    c.index-kid.ensures c.child-items.ensures laws.root laws.parts laws.items c.chunks_are_tables.ensures.chunk c.flat_types_have_no_children.ensures
    c.requires.chunk in
    let place = c.first_row-start.ensures in
    let start = c.first_row-start.result in
    let firsts = c.args.firsts.now in
    let are = c.requires.firsts in
    let once = c.lawful_values_fit.ensures.once in
    let types = map kind_in (children_of (typed_of t)) in
    let rows = rows_of (typed_of t) array in
    can-runs t own array child k kid firsts start place once are

pub far_column-requires-clause-near : goal.far_column-requires-clause-near
far_column-requires-clause-near c =
    let laws = c.lawful_trees.ensures in
    let t = c.args.typed.now in
    let own = c.index-kid.result.now in
    let array = c.args.array.now in
    let child = c.child-items.result.now in
    let k = c.args.column in
    let kid = kid-here t own array child k k c.kinds_of_typed.ensures c.kinds_of_typed-2.ensures c.requires.types c.requires.inside
    c.index-kid.ensures c.child-items.ensures laws.root laws.parts laws.items c.chunks_are_tables.ensures.chunk c.flat_types_have_no_children.ensures
    c.requires.chunk in
    let place = c.first_row-start.ensures in
    let start = c.first_row-start.result in
    let firsts = c.args.firsts.now in
    let are = c.requires.firsts in
    let once = c.lawful_values_fit.ensures.once in
    let types = map kind_in (children_of (typed_of t)) in
    let rows = rows_of (typed_of t) array in
    near-firsts t own array child k kid firsts start place are

pub table_of_one-requires-clause-column : goal.table_of_one-requires-clause-column
table_of_one-requires-clause-column c =
    let laws = c.lawful_trees.ensures in
    let t = c.args.typed.now in
    let own = c.index-kid.result.now in
    let array = c.args.array.now in
    let child = c.child-items.result.now in
    let k = c.args.column in
    let kid = kid-here t own array child k k c.kinds_of_typed.ensures c.kinds_of_typed-2.ensures c.requires.types c.requires.inside
    c.index-kid.ensures c.child-items.ensures laws.root laws.parts laws.items c.chunks_are_tables.ensures.chunk c.flat_types_have_no_children.ensures
    c.requires.chunk in
    let place = c.first_row-start.ensures in
    let start = c.first_row-start.result in
    let firsts = c.args.firsts.now in
    let are = c.requires.firsts in
    let once = c.lawful_values_fit.ensures.once in
    let types = map kind_in (children_of (typed_of t)) in
    let rows = rows_of (typed_of t) array in
    let kind = kind_of own in
    let made : c.in_ok-keys.keys ≡ nested_column k types rows k =
    c.in_ok-keys.ensures.made ∙ ap (λ n. column_tree kind (values_at (type_of_kind (Flat kind)) child n firsts) None) place
    ∙ key-column t own array child k kid firsts are in
    let size : length firsts ≡ length (keys_of k rows) =
    sym (length-map firsts (λ (i : ℕ). value_at (child_at (typed_of t) k) (child_at array k) (first (members_of array) + i))) ∙ ap length are.keys in
    let few : length (keys_of k rows) ≤ 2 ^ 40 = omega (arith, few-keys k rows, many-rows (typed_of t) array, kid.flat.near) in
    subst (IsColumn (length firsts)) (sym made) (subst (λ n. IsColumn n (nested_column k types rows k)) (sym size) (one-column k types rows k))

pub table_of_one-requires-clause-few : goal.table_of_one-requires-clause-few
table_of_one-requires-clause-few c =
    let laws = c.lawful_trees.ensures in
    let t = c.args.typed.now in
    let own = c.index-kid.result.now in
    let array = c.args.array.now in
    let child = c.child-items.result.now in
    let k = c.args.column in
    let kid = kid-here t own array child k k c.kinds_of_typed.ensures c.kinds_of_typed-2.ensures c.requires.types c.requires.inside
    c.index-kid.ensures c.child-items.ensures laws.root laws.parts laws.items c.chunks_are_tables.ensures.chunk c.flat_types_have_no_children.ensures
    c.requires.chunk in
    let place = c.first_row-start.ensures in
    let start = c.first_row-start.result in
    let firsts = c.args.firsts.now in
    let are = c.requires.firsts in
    let once = c.lawful_values_fit.ensures.once in
    let types = map kind_in (children_of (typed_of t)) in
    let rows = rows_of (typed_of t) array in
    let kind = kind_of own in
    let made : c.in_ok-keys.keys ≡ nested_column k types rows k =
    c.in_ok-keys.ensures.made ∙ ap (λ n. column_tree kind (values_at (type_of_kind (Flat kind)) child n firsts) None) place
    ∙ key-column t own array child k kid firsts are in
    let size : length firsts ≡ length (keys_of k rows) =
    sym (length-map firsts (λ (i : ℕ). value_at (child_at (typed_of t) k) (child_at array k) (first (members_of array) + i))) ∙ ap length are.keys in
    let few : length (keys_of k rows) ≤ 2 ^ 40 = omega (arith, few-keys k rows, many-rows (typed_of t) array, kid.flat.near) in
    omega (arith, size, few)

pub returns-in-Ok-clause-made : goal.returns-in-Ok-clause-made
returns-in-Ok-clause-made c =
    let laws = c.lawful_trees.ensures in
    let t = c.args.typed.now in
    let own = c.index-kid.result.now in
    let array = c.args.array.now in
    let child = c.child-items.result.now in
    let k = c.args.column in
    let kid = kid-here t own array child k k c.kinds_of_typed.ensures c.kinds_of_typed-2.ensures c.requires.types c.requires.inside
    c.index-kid.ensures c.child-items.ensures laws.root laws.parts laws.items c.chunks_are_tables.ensures.chunk c.flat_types_have_no_children.ensures
    c.requires.chunk in
    let place = c.first_row-start.ensures in
    let start = c.first_row-start.result in
    let firsts = c.args.firsts.now in
    let are = c.requires.firsts in
    let once = c.lawful_values_fit.ensures.once in
    let types = map kind_in (children_of (typed_of t)) in
    let rows = rows_of (typed_of t) array in
    let kind = kind_of own in
    let made : c.in_ok-keys.keys ≡ nested_column k types rows k =
    c.in_ok-keys.ensures.made ∙ ap (λ n. column_tree kind (values_at (type_of_kind (Flat kind)) child n firsts) None) place
    ∙ key-column t own array child k kid firsts are in
    let size : length firsts ≡ length (keys_of k rows) =
    sym (length-map firsts (λ (i : ℕ). value_at (child_at (typed_of t) k) (child_at array k) (first (members_of array) + i))) ∙ ap length are.keys in
    let few : length (keys_of k rows) ≤ 2 ^ 40 = omega (arith, few-keys k rows, many-rows (typed_of t) array, kid.flat.near) in
    c.in-Ok.ensures.made ∙ (λ j. table_tree (size j) (made j ∷ []))
    ∙ lone-array k (typed_of t) array c.requires.chunk.inside c.requires.alone

pub returns-in-Ok-clause-fits : goal.returns-in-Ok-clause-fits
returns-in-Ok-clause-fits c =
    let laws = c.lawful_trees.ensures in
    let t = c.args.typed.now in
    let own = c.index-kid.result.now in
    let array = c.args.array.now in
    let child = c.child-items.result.now in
    let k = c.args.column in
    let kid = kid-here t own array child k k c.kinds_of_typed.ensures c.kinds_of_typed-2.ensures c.requires.types c.requires.inside
    c.index-kid.ensures c.child-items.ensures laws.root laws.parts laws.items c.chunks_are_tables.ensures.chunk c.flat_types_have_no_children.ensures
    c.requires.chunk in
    let place = c.first_row-start.ensures in
    let start = c.first_row-start.result in
    let firsts = c.args.firsts.now in
    let are = c.requires.firsts in
    let once = c.lawful_values_fit.ensures.once in
    let types = map kind_in (children_of (typed_of t)) in
    let rows = rows_of (typed_of t) array in
    lone-fit k (typed_of t) array c.requires.chunk.inside c.requires.alone (key-fit t own array child k kid firsts once are)
    (omega (arith, kid.flat.near))
