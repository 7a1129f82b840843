use Rattle.std.proofs.Common.{◌≡◌, ◌∙◌, ℕ, IfOk, OnOk, None, map, ap, sym, subst}
use Rattle.std.specs.Prelude.{Result, Ok, Err}
use Rattle.tree_model.specs.promise.TreeParts.{children_of}
use Rattle.raw_array.specs.promise.Members.{ArrayTree}
use Rattle.data_types.specs.promise.KindTrees.{kind_in}
use Rattle.data_types.specs.promise.TypedView.{typed_of}
use Rattle.data_types.specs.TypedView.{kind_of}
use Rattle.layout_rules.specs.promise.Values.{rows_of}
use Rattle.arr_export.specs.promise.ArrayTrees.{column_tree}
use Rattle.column_fill.specs.Gathered.{CanGather, values_at}
use Rattle.data_types.specs.promise.Table.{Flat}
use Rattle.data_types.specs.promise.ColumnKinds.{type_of_kind}
use Rattle.list_cols.specs.promise.ListTrees.{list_tree}
use Rattle.list_cols.specs.NestedGroups.{AreFirsts, HasItems, grouped_lists, row_keys}
use Rattle.list_cols.specs.promise.NestedTables.{nested_column}
use Rattle.list_cols.specs.NestedTables.{FitColumn}
use Rattle.list_cols.proofs.NestedKids.{can-first, few-keys, has-items, key-column, key-fit, kid-here, list-column, list-fit}
use Rattle.list_cols.proofs.nest_columns.nested_column.Goals as goal

pub lawful_values_fit-requires-clause-types : goal.lawful_values_fit-requires-clause-types
lawful_values_fit-requires-clause-types c =
    let laws = c.lawful_trees.ensures in
    let kid = kid-here c.args.typed.now c.index-kid.result.now c.args.array.now c.child-items.result.now c.args.column c.args.k c.kinds_of_typed.ensures
    c.kinds_of_typed-2.ensures c.requires.types c.requires.inside c.index-kid.ensures c.child-items.ensures laws.root laws.parts laws.items
    c.chunks_are_tables.ensures.chunk c.flat_types_have_no_children.ensures c.requires.chunk in
    kid.ok

pub lawful_values_fit-requires-clause-lawful : goal.lawful_values_fit-requires-clause-lawful
lawful_values_fit-requires-clause-lawful c =
    let laws = c.lawful_trees.ensures in
    let kid = kid-here c.args.typed.now c.index-kid.result.now c.args.array.now c.child-items.result.now c.args.column c.args.k c.kinds_of_typed.ensures
    c.kinds_of_typed-2.ensures c.requires.types c.requires.inside c.index-kid.ensures c.child-items.ensures laws.root laws.parts laws.items
    c.chunks_are_tables.ensures.chunk c.flat_types_have_no_children.ensures c.requires.chunk in
    kid.lawful

pub picked_column-requires-clause-typed : goal.picked_column-requires-clause-typed
picked_column-requires-clause-typed c =
    let laws = c.lawful_trees.ensures in
    let t = c.args.typed.now in
    let own = c.index-kid.result.now in
    let array = c.args.array.now in
    let child = c.child-items.result.now in
    let k = c.args.k in
    let kid = kid-here t own array child c.args.column k c.kinds_of_typed.ensures c.kinds_of_typed-2.ensures c.requires.types c.requires.inside
    c.index-kid.ensures c.child-items.ensures laws.root laws.parts laws.items c.chunks_are_tables.ensures.chunk c.flat_types_have_no_children.ensures
    c.requires.chunk in
    kid.typed

pub picked_column-requires-clause-types : goal.picked_column-requires-clause-types
picked_column-requires-clause-types c =
    let laws = c.lawful_trees.ensures in
    let t = c.args.typed.now in
    let own = c.index-kid.result.now in
    let array = c.args.array.now in
    let child = c.child-items.result.now in
    let k = c.args.k in
    let kid = kid-here t own array child c.args.column k c.kinds_of_typed.ensures c.kinds_of_typed-2.ensures c.requires.types c.requires.inside
    c.index-kid.ensures c.child-items.ensures laws.root laws.parts laws.items c.chunks_are_tables.ensures.chunk c.flat_types_have_no_children.ensures
    c.requires.chunk in
    kid.ok

pub picked_column-requires-clause-items : goal.picked_column-requires-clause-items
picked_column-requires-clause-items c =
    let laws = c.lawful_trees.ensures in
    let t = c.args.typed.now in
    let own = c.index-kid.result.now in
    let array = c.args.array.now in
    let child = c.child-items.result.now in
    let k = c.args.k in
    let kid = kid-here t own array child c.args.column k c.kinds_of_typed.ensures c.kinds_of_typed-2.ensures c.requires.types c.requires.inside
    c.index-kid.ensures c.child-items.ensures laws.root laws.parts laws.items c.chunks_are_tables.ensures.chunk c.flat_types_have_no_children.ensures
    c.requires.chunk in
    let here : c.args.column ≡ k = sym c.if-k-column.true in
    let firsts = subst (λ n. AreFirsts n (typed_of t) array c.args.groups.now.firsts.items) here c.requires.groups.firsts in
    let kept = subst (AreFirsts k (typed_of t) array) (sym c.deref.ensures.value) firsts in
    subst (λ n. CanGather (kind_of own) child n c.deref.result.now) (sym c.first_row-start.ensures)
    (can-first t own array child k kid c.deref.result.now c.lawful_values_fit.ensures.once kept)

pub list_column-requires-clause-typed : goal.list_column-requires-clause-typed
list_column-requires-clause-typed c =
    let laws = c.lawful_trees.ensures in
    let t = c.args.typed.now in
    let own = c.index-kid.result.now in
    let array = c.args.array.now in
    let child = c.child-items.result.now in
    let k = c.args.k in
    let kid = kid-here t own array child c.args.column k c.kinds_of_typed.ensures c.kinds_of_typed-2.ensures c.requires.types c.requires.inside
    c.index-kid.ensures c.child-items.ensures laws.root laws.parts laws.items c.chunks_are_tables.ensures.chunk c.flat_types_have_no_children.ensures
    c.requires.chunk in
    kid.typed

pub list_column-requires-clause-types : goal.list_column-requires-clause-types
list_column-requires-clause-types c =
    let laws = c.lawful_trees.ensures in
    let t = c.args.typed.now in
    let own = c.index-kid.result.now in
    let array = c.args.array.now in
    let child = c.child-items.result.now in
    let k = c.args.k in
    let kid = kid-here t own array child c.args.column k c.kinds_of_typed.ensures c.kinds_of_typed-2.ensures c.requires.types c.requires.inside
    c.index-kid.ensures c.child-items.ensures laws.root laws.parts laws.items c.chunks_are_tables.ensures.chunk c.flat_types_have_no_children.ensures
    c.requires.chunk in
    kid.ok

pub list_column-requires-clause-flat : goal.list_column-requires-clause-flat
list_column-requires-clause-flat c =
    let laws = c.lawful_trees.ensures in
    let t = c.args.typed.now in
    let own = c.index-kid.result.now in
    let array = c.args.array.now in
    let child = c.child-items.result.now in
    let k = c.args.k in
    let kid = kid-here t own array child c.args.column k c.kinds_of_typed.ensures c.kinds_of_typed-2.ensures c.requires.types c.requires.inside
    c.index-kid.ensures c.child-items.ensures laws.root laws.parts laws.items c.chunks_are_tables.ensures.chunk c.flat_types_have_no_children.ensures
    c.requires.chunk in
    kid.form

pub list_column-requires-clause-groups : goal.list_column-requires-clause-groups
list_column-requires-clause-groups c =
    let laws = c.lawful_trees.ensures in
    let t = c.args.typed.now in
    let own = c.index-kid.result.now in
    let array = c.args.array.now in
    let child = c.child-items.result.now in
    let k = c.args.k in
    let kid = kid-here t own array child c.args.column k c.kinds_of_typed.ensures c.kinds_of_typed-2.ensures c.requires.types c.requires.inside
    c.index-kid.ensures c.child-items.ensures laws.root laws.parts laws.items c.chunks_are_tables.ensures.chunk c.flat_types_have_no_children.ensures
    c.requires.chunk in
    let vs = row_keys c.args.column (typed_of t) array in
    let has = has-items t own array child k kid c.args.column in (
      vs,
      c.requires.groups.are,
      subst (λ n. HasItems (kind_of own) child n vs) (sym c.first_row-start.ensures) has,
      few-keys t own array child k kid c.args.column c.requires.groups.few,
    )

if-ok : {E : Type 0} (r : Result ArrayTree E) (P Q : ArrayTree → Type 0) → ((u : ArrayTree) → P u → Q u) → IfOk r P → IfOk r Q
if-ok (Ok u) P Q f h = f u h
if-ok (Err e) P Q f h = h

on-ok : {E : Type 0} (r : Result ArrayTree E) (P : Type 0) → P → OnOk r P
on-ok (Ok u) P h = h
on-ok (Err e) P h = tt

pub returns-then-k-column-clause-made : goal.returns-then-k-column-clause-made
returns-then-k-column-clause-made c =
    let laws = c.lawful_trees.ensures in
    let t = c.args.typed.now in
    let own = c.index-kid.result.now in
    let array = c.args.array.now in
    let child = c.child-items.result.now in
    let k = c.args.k in
    let kid = kid-here t own array child c.args.column k c.kinds_of_typed.ensures c.kinds_of_typed-2.ensures c.requires.types c.requires.inside
    c.index-kid.ensures c.child-items.ensures laws.root laws.parts laws.items c.chunks_are_tables.ensures.chunk c.flat_types_have_no_children.ensures
    c.requires.chunk in
    let here : c.args.column ≡ k = sym c.if-k-column.true in
    let firsts = subst (λ n. AreFirsts n (typed_of t) array c.args.groups.now.firsts.items) here c.requires.groups.firsts in
    let kept = subst (AreFirsts k (typed_of t) array) (sym c.deref.ensures.value) firsts in
    let rows = rows_of (typed_of t) array in
    let types = map kind_in (children_of (typed_of t)) in
    let start = c.first_row-start.ensures in
    let made = key-column t own array child k kid c.deref.result.now kept in
    let moved = subst (λ n. column_tree (kind_of own) (values_at (type_of_kind (Flat (kind_of own))) child n c.deref.result.now) None ≡ nested_column k types rows k)
    (sym start) made in
    if-ok c.picked_column.result _ (λ u. u ≡ nested_column c.args.column types rows k)
    (λ u e. e ∙ moved ∙ ap (λ n. nested_column n types rows k) (sym here)) c.picked_column.ensures.made

pub returns-then-k-column-clause-fits : goal.returns-then-k-column-clause-fits
returns-then-k-column-clause-fits c =
    let laws = c.lawful_trees.ensures in
    let t = c.args.typed.now in
    let own = c.index-kid.result.now in
    let array = c.args.array.now in
    let child = c.child-items.result.now in
    let k = c.args.k in
    let kid = kid-here t own array child c.args.column k c.kinds_of_typed.ensures c.kinds_of_typed-2.ensures c.requires.types c.requires.inside
    c.index-kid.ensures c.child-items.ensures laws.root laws.parts laws.items c.chunks_are_tables.ensures.chunk c.flat_types_have_no_children.ensures
    c.requires.chunk in
    let here : c.args.column ≡ k = sym c.if-k-column.true in
    let firsts = subst (λ n. AreFirsts n (typed_of t) array c.args.groups.now.firsts.items) here c.requires.groups.firsts in
    let kept = subst (AreFirsts k (typed_of t) array) (sym c.deref.ensures.value) firsts in
    let rows = rows_of (typed_of t) array in
    let types = map kind_in (children_of (typed_of t)) in
    on-ok c.picked_column.result _ (subst (λ n. FitColumn n types rows k) (sym here)
    (key-fit t own array child k kid c.deref.result.now c.lawful_values_fit.ensures.once kept))

pub returns-else-k-column-clause-made : goal.returns-else-k-column-clause-made
returns-else-k-column-clause-made c =
    let laws = c.lawful_trees.ensures in
    let t = c.args.typed.now in
    let own = c.index-kid.result.now in
    let array = c.args.array.now in
    let child = c.child-items.result.now in
    let k = c.args.k in
    let kid = kid-here t own array child c.args.column k c.kinds_of_typed.ensures c.kinds_of_typed-2.ensures c.requires.types c.requires.inside
    c.index-kid.ensures c.child-items.ensures laws.root laws.parts laws.items c.chunks_are_tables.ensures.chunk c.flat_types_have_no_children.ensures
    c.requires.chunk in
    let rows = rows_of (typed_of t) array in
    let types = map kind_in (children_of (typed_of t)) in
    let vs = row_keys c.args.column (typed_of t) array in
    let lists = λ (n : ℕ). list_tree (kind_of own) (grouped_lists (type_of_kind (Flat (kind_of own))) child n vs) in
    let same = ap lists c.first_row-start.ensures ∙ list-column t own array child k kid c.args.column c.if-k-column.false in
    if-ok c.list_column.result _ (λ u. u ≡ nested_column c.args.column types rows k) (λ u e. e vs c.requires.groups.are ∙ same) c.list_column.ensures.made

pub returns-else-k-column-clause-fits : goal.returns-else-k-column-clause-fits
returns-else-k-column-clause-fits c =
    let laws = c.lawful_trees.ensures in
    let t = c.args.typed.now in
    let own = c.index-kid.result.now in
    let array = c.args.array.now in
    let child = c.child-items.result.now in
    let k = c.args.k in
    let kid = kid-here t own array child c.args.column k c.kinds_of_typed.ensures c.kinds_of_typed-2.ensures c.requires.types c.requires.inside
    c.index-kid.ensures c.child-items.ensures laws.root laws.parts laws.items c.chunks_are_tables.ensures.chunk c.flat_types_have_no_children.ensures
    c.requires.chunk in
    on-ok c.list_column.result _ (list-fit t own array child k kid c.args.column c.args.groups.now c.lawful_values_fit.ensures.once c.requires.groups
    c.if-k-column.false)
