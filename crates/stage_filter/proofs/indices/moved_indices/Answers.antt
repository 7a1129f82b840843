use Rattle.std.proofs.Common.{◌∙◌, ◌+◌, ◌++◌, ℕ, [], ◌∷◌, None, refl, true, sym, ap, subst, take, get_or, arith}
use Rattle.std.proofs.lemmas.Int.{ints}
use Rattle.arr_export.specs.ArrayTrees.{flat_type}
use Rattle.arr_import.specs.Lent.{lent_bytes}
use Rattle.col_build.specs.Holding.{Holds, Takes}
use Rattle.data_types.specs.promise.Table.{Dict}
use Rattle.data_types.specs.promise.Value.{Value}
use Rattle.data_types.specs.promise.ColumnKinds.{type_of_kind}
use Rattle.layout_rules.specs.promise.Values.{value_at}
use Rattle.stage_filter.specs.KeptTrees.{index_type, indices_at}
use Rattle.stage_filter.proofs.IndexedItems.{has-dictionary, index-kind, index-values, next-place}
use Rattle.column_fill.proofs.ItemsMoved.{holds-wholes, one-more, taken, takes-next}
use Rattle.stage_filter.proofs.indices.moved_indices.Goals as goal

-- ---- the array
pub first_of-requires-clause-live : goal.first_of-requires-clause-live
first_of-requires-clause-live c = (c.lawful_trees.ensures.root (type_of_kind (Dict c.requires.0)) c.args.array.now tt c.requires.1.ok).live

pub first_of-requires-clause-placed : goal.first_of-requires-clause-placed
first_of-requires-clause-placed c = (c.lawful_trees.ensures.root (type_of_kind (Dict c.requires.0)) c.args.array.now tt c.requires.1.ok).placed

pub overflow_add-first : goal.overflow_add-first
overflow_add-first c =
    let node = c.lawful_trees.ensures.root (type_of_kind (Dict c.requires.0)) c.args.array.now tt c.requires.1.ok in
    omega (arith, ints, c.first_of.ensures, node.near, node.many, c.requires.1.begins)

pub validity_of-validity-requires : goal.validity_of-validity-requires
validity_of-validity-requires c =
    omega (arith, (c.lawful_trees.ensures.root (type_of_kind (Dict c.requires.0)) c.args.array.now tt c.requires.1.ok).counted)

pub stored_bytes-stored-requires : goal.stored_bytes-stored-requires
stored_bytes-stored-requires c =
    omega (arith, (c.lawful_trees.ensures.root (type_of_kind (Dict c.requires.0)) c.args.array.now tt c.requires.1.ok).counted)

-- ---- an index
pub overflow_add-first-in-loop-i : goal.overflow_add-first-in-loop-i
overflow_add-first-in-loop-i c =
    let law = c.lawful_trees.ensures in
    let place =
    next-place law.root law.items c.requires.0 c.args.array.now c.args.start c.args.kept.now c.requires.1 c.loop-i.i-index c.from.result c.first_of.result
    (lent_bytes c.validity_of-validity.result) c.stored_bytes-stored.result.now c.loop-i-test.true c.from.ensures c.first_of.ensures
    c.validity_of-validity.ensures c.stored_bytes-stored.ensures in
    omega (arith, ints, place.near)

pub add_index-requires-clause-near : goal.add_index-requires-clause-near
add_index-requires-clause-near c =
    let law = c.lawful_trees.ensures in
    let place =
    next-place law.root law.items c.requires.0 c.args.array.now c.args.start c.args.kept.now c.requires.1 c.loop-i.i-index c.from.result c.first_of.result
    (lent_bytes c.validity_of-validity.result) c.stored_bytes-stored.result.now c.loop-i-test.true c.from.ensures c.first_of.ensures
    c.validity_of-validity.ensures c.stored_bytes-stored.ensures in
    place.near

pub add_index-requires-clause-long : goal.add_index-requires-clause-long
add_index-requires-clause-long c =
    let law = c.lawful_trees.ensures in
    let place =
    next-place law.root law.items c.requires.0 c.args.array.now c.args.start c.args.kept.now c.requires.1 c.loop-i.i-index c.from.result c.first_of.result
    (lent_bytes c.validity_of-validity.result) c.stored_bytes-stored.result.now c.loop-i-test.true c.from.ensures c.first_of.ensures
    c.validity_of-validity.ensures c.stored_bytes-stored.ensures in
    place.long

pub add_index-requires-clause-there : goal.add_index-requires-clause-there
add_index-requires-clause-there c =
    let law = c.lawful_trees.ensures in
    let place =
    next-place law.root law.items c.requires.0 c.args.array.now c.args.start c.args.kept.now c.requires.1 c.loop-i.i-index c.from.result c.first_of.result
    (lent_bytes c.validity_of-validity.result) c.stored_bytes-stored.result.now c.loop-i-test.true c.from.ensures c.first_of.ensures
    c.validity_of-validity.ensures c.stored_bytes-stored.ensures in
    place.there

-- ---- the builder
pub add_index-requires-clause-takes : goal.add_index-requires-clause-takes
add_index-requires-clause-takes c =
    let can = c.requires.1 in
    let array = c.args.array.now in
    let kept = c.args.kept.now in
    let k = c.loop-i.i-index in
    let law = c.lawful_trees.ensures in
    let f : ℕ → Value = λ i. value_at (flat_type index_type None) array (c.args.start + i) in
    let place =
    next-place law.root law.items c.requires.0 array c.args.start kept can k c.from.result c.first_of.result
    (lent_bytes c.validity_of-validity.result) c.stored_bytes-stored.result.now c.loop-i-test.true c.from.ensures c.first_of.ensures
    c.validity_of-validity.ensures c.stored_bytes-stored.ensures in
    let has = has-dictionary law.root law.parts law.items c.requires.0 array can.ok in
    subst (Takes c.loop-i.builder) (sym (place.is ∙ ap f c.from.ensures))
    (taken c.loop-i.builder _ (f (get_or kept k 0))
    (takes-next index_type f kept k c.loop-i.builder _ index-kind (index-values c.requires.0 array c.args.start kept has can.inside) can.few c.loop-i-test.true
    c.loop-i.invariant refl))

pub add_index-requires-clause-width : goal.add_index-requires-clause-width
add_index-requires-clause-width c = holds-wholes c.loop-i.builder index_type _ 4 true c.loop-i.invariant refl

pub loop-i-preserved : goal.loop-i-preserved
loop-i-preserved c =
    let array = c.args.array.now in
    let kept = c.args.kept.now in
    let k = c.loop-i.i-index in
    let law = c.lawful_trees.ensures in
    let f : ℕ → Value = λ i. value_at (flat_type index_type None) array (c.args.start + i) in
    let place =
    next-place law.root law.items c.requires.0 array c.args.start kept c.requires.1 k c.from.result c.first_of.result
    (lent_bytes c.validity_of-validity.result) c.stored_bytes-stored.result.now c.loop-i-test.true c.from.ensures c.first_of.ensures
    c.validity_of-validity.ensures c.stored_bytes-stored.ensures in
    let before = indices_at array c.args.start (take k kept) in
    subst (Holds c.add_index.new.builder index_type)
    (ap (λ (v : Value). before ++ v ∷ []) (place.is ∙ ap f c.from.ensures) ∙ sym (one-more f kept k c.loop-i-test.true))
    (c.in_ok-add_index.ensures index_type before c.loop-i.invariant)
